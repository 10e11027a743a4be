-- Text as bytes, so that words and worked lines can be read as they are printed. It serves characters below 128, whose code is their byte.
use Rattle.std.specs.Prelude.{List, [], ◌∷◌, ℕ}
use Prim.Native.Char.{code}
use Prim.Native.String.{String}
use Prim.Native.String as Texts

abbrev pub bytes : String → List ℕ
bytes Texts.[] = []
bytes (Texts.◌∷◌ c text) = code c ∷ bytes text
