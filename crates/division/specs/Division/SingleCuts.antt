-- Cases of our own for single cuts: halves of lengths and parts of blocks at lengths from 13 to 65,535, under one claim, which computes. A wrong rule that
-- begins, or ends, at some length is refused by them; the curves of Telling.antt pin the rules below. The values are those of the independent program in
-- tests/, and tests/telling.rs compares them.
use Rattle.std.specs.Prelude.{Bool, true, false, ◌&&◌, List, [], ◌∷◌, ℕ, T, eqb}
use Rattle.division.specs.declared.Choice.{Choice}
use Rattle.division.specs.declared.Choice.TheVariants.{StraightRun, StraightSide, LongCut, UCut}
use Rattle.division.specs.Division.{square, Direction, +x, +y, -x, -y, Block, whole, choice, even_half, part, parts, parts_of, moved, against, same}

-- A line of the table.
pub data Cut : Type 0 where
  -- the even half of L is e
  half : (L e : ℕ) → Cut
  -- the block is straight, and its squares follow in this direction
  straight : Block → Direction → Cut
  -- the block has these parts, in this order
  cut : Block → List Block → Cut

-- A block by its start, its run and its side.
abbrev block : (x y : ℕ) → Direction → ℕ → Direction → ℕ → Block
block x y run a side b = record { start = square x y; run = run; a = a; side = side; b = b }

-- Blocks compared: their directions by a number for each.
turn : Direction → ℕ
turn +x = 0
turn +y = 1
turn -x = 2
turn -y = 3

same_way : Direction → Direction → Bool
unfolding turn
same_way d t = eqb (turn d) (turn t)

same_block : Block → Block → Bool
unfolding same same_way
same_block j k =
    same j.start k.start && same_way j.run k.run && eqb j.a k.a && same_way j.side k.side && eqb j.b k.b

same_blocks : List Block → List Block → Bool
unfolding same_block
same_blocks [] [] = true
same_blocks [] (k ∷ ks) = false
same_blocks (j ∷ js) [] = false
same_blocks (j ∷ js) (k ∷ ks) = same_block j k && same_blocks js ks

-- Whether the squares of a block with this case follow one another in this direction.
follows : Choice → Block → Direction → Bool
unfolding same_way
follows StraightRun k way = same_way k.run way
follows StraightSide k way = same_way k.side way
follows LongCut k way = false
follows UCut k way = false

right : Cut → Bool
unfolding same_blocks follows even_half choice parts parts_of part moved against whole
right (half L e) = eqb (even_half L) e
right (straight k way) = follows (choice k.a k.b) k way
right (cut k ks) = same_blocks (parts k) ks

unfoldable pub all_cut_right : List Cut → Bool
unfolding right
all_cut_right [] = true
all_cut_right (c ∷ cs) = right c && all_cut_right cs

pub single_cuts : List Cut
single_cuts =
    -- Even halves: of 13 to 65,535, with halves that are odd, and are made even, all along.
    half 13 6 ∷ half 14 8 ∷ half 15 8 ∷ half 16 8 ∷ half 17 8 ∷ half 18 10 ∷ half 19 10 ∷ half 30 16 ∷ half 31 16
    ∷ half 32 16 ∷ half 33 16 ∷ half 62 32 ∷ half 63 32 ∷ half 64 32 ∷ half 65 32 ∷ half 66 34 ∷ half 126 64
    ∷ half 127 64 ∷ half 128 64 ∷ half 129 64 ∷ half 254 128 ∷ half 255 128 ∷ half 256 128 ∷ half 257 128 ∷ half 258 130
    ∷ half 510 256 ∷ half 511 256 ∷ half 513 256 ∷ half 999 500 ∷ half 1000 500 ∷ half 1001 500 ∷ half 1002 502
    ∷ half 2046 1024 ∷ half 2047 1024 ∷ half 2049 1024 ∷ half 4094 2048 ∷ half 4095 2048 ∷ half 4096 2048
    ∷ half 4097 2048 ∷ half 4098 2050 ∷ half 10922 5462 ∷ half 10923 5462 ∷ half 10924 5462 ∷ half 21845 10922
    ∷ half 21846 10924 ∷ half 32766 16384 ∷ half 32767 16384 ∷ half 32768 16384 ∷ half 32769 16384 ∷ half 32770 16386
    ∷ half 40000 20000 ∷ half 40001 20000 ∷ half 40002 20002 ∷ half 49150 24576 ∷ half 49151 24576 ∷ half 58982 29492
    ∷ half 65529 32764 ∷ half 65530 32766 ∷ half 65531 32766 ∷ half 65532 32766 ∷ half 65533 32766 ∷ half 65534 32768
    ∷ half 65535 32768
    -- Straight blocks: in the run direction if the side is 1, else in the side direction.
    ∷ straight (whole 1 1) +x
    ∷ straight (whole 13 1) +x
    ∷ straight (whole 4096 1) +x
    ∷ straight (whole 65535 1) +x
    ∷ straight (whole 1 13) +y
    ∷ straight (whole 1 4097) +y
    ∷ straight (whole 1 65535) +y
    ∷ straight (block 40000 65534 -y 65535 -x 1) -y
    ∷ straight (block 65534 40000 -y 1 -x 65535) -x
    -- On either side of 2a = 3b: of each four, two areas with a U cut, 2a being 3b and 3b - 1, and two with a long cut, 2a being 3b + 2 and 3b + 1.
    ∷ cut (whole 13 9) (block 0 0 +y 4 +x 6 ∷ block 0 4 +x 13 +y 5 ∷ block 12 3 -y 4 -x 7 ∷ [])
    ∷ cut (whole 13 8) (block 0 0 +x 6 +y 8 ∷ block 6 0 +x 7 +y 8 ∷ [])
    ∷ cut (whole 14 9) (block 0 0 +x 8 +y 9 ∷ block 8 0 +x 6 +y 9 ∷ [])
    ∷ cut (whole 15 10) (block 0 0 +y 6 +x 7 ∷ block 0 6 +x 15 +y 4 ∷ block 14 5 -y 6 -x 8 ∷ [])
    ∷ cut (whole 16 11) (block 0 0 +y 6 +x 8 ∷ block 0 6 +x 16 +y 5 ∷ block 15 5 -y 6 -x 8 ∷ [])
    ∷ cut (whole 16 10) (block 0 0 +x 8 +y 10 ∷ block 8 0 +x 8 +y 10 ∷ [])
    ∷ cut (whole 17 11) (block 0 0 +x 8 +y 11 ∷ block 8 0 +x 9 +y 11 ∷ [])
    ∷ cut (whole 21 14) (block 0 0 +y 8 +x 10 ∷ block 0 8 +x 21 +y 6 ∷ block 20 7 -y 8 -x 11 ∷ [])
    ∷ cut (whole 22 15) (block 0 0 +y 8 +x 11 ∷ block 0 8 +x 22 +y 7 ∷ block 21 7 -y 8 -x 11 ∷ [])
    ∷ cut (whole 22 14) (block 0 0 +x 12 +y 14 ∷ block 12 0 +x 10 +y 14 ∷ [])
    ∷ cut (whole 23 15) (block 0 0 +x 12 +y 15 ∷ block 12 0 +x 11 +y 15 ∷ [])
    ∷ cut (whole 33 22) (block 0 0 +y 12 +x 16 ∷ block 0 12 +x 33 +y 10 ∷ block 32 11 -y 12 -x 17 ∷ [])
    ∷ cut (whole 34 23) (block 0 0 +y 12 +x 17 ∷ block 0 12 +x 34 +y 11 ∷ block 33 11 -y 12 -x 17 ∷ [])
    ∷ cut (whole 34 22) (block 0 0 +x 18 +y 22 ∷ block 18 0 +x 16 +y 22 ∷ [])
    ∷ cut (whole 35 23) (block 0 0 +x 18 +y 23 ∷ block 18 0 +x 17 +y 23 ∷ [])
    ∷ cut (whole 45 30) (block 0 0 +y 16 +x 22 ∷ block 0 16 +x 45 +y 14 ∷ block 44 15 -y 16 -x 23 ∷ [])
    ∷ cut (whole 46 31) (block 0 0 +y 16 +x 23 ∷ block 0 16 +x 46 +y 15 ∷ block 45 15 -y 16 -x 23 ∷ [])
    ∷ cut (whole 46 30) (block 0 0 +x 24 +y 30 ∷ block 24 0 +x 22 +y 30 ∷ [])
    ∷ cut (whole 47 31) (block 0 0 +x 24 +y 31 ∷ block 24 0 +x 23 +y 31 ∷ [])
    ∷ cut (whole 126 84) (block 0 0 +y 42 +x 63 ∷ block 0 42 +x 126 +y 42 ∷ block 125 41 -y 42 -x 63 ∷ [])
    ∷ cut (whole 127 85) (block 0 0 +y 42 +x 63 ∷ block 0 42 +x 127 +y 43 ∷ block 126 41 -y 42 -x 64 ∷ [])
    ∷ cut (whole 127 84) (block 0 0 +x 64 +y 84 ∷ block 64 0 +x 63 +y 84 ∷ [])
    ∷ cut (whole 128 85) (block 0 0 +x 64 +y 85 ∷ block 64 0 +x 64 +y 85 ∷ [])
    ∷ cut (whole 189 126) (block 0 0 +y 64 +x 94 ∷ block 0 64 +x 189 +y 62 ∷ block 188 63 -y 64 -x 95 ∷ [])
    ∷ cut (whole 190 127) (block 0 0 +y 64 +x 95 ∷ block 0 64 +x 190 +y 63 ∷ block 189 63 -y 64 -x 95 ∷ [])
    ∷ cut (whole 190 126) (block 0 0 +x 96 +y 126 ∷ block 96 0 +x 94 +y 126 ∷ [])
    ∷ cut (whole 191 127) (block 0 0 +x 96 +y 127 ∷ block 96 0 +x 95 +y 127 ∷ [])
    ∷ cut (whole 381 254) (block 0 0 +y 128 +x 190 ∷ block 0 128 +x 381 +y 126 ∷ block 380 127 -y 128 -x 191 ∷ [])
    ∷ cut (whole 382 255) (block 0 0 +y 128 +x 191 ∷ block 0 128 +x 382 +y 127 ∷ block 381 127 -y 128 -x 191 ∷ [])
    ∷ cut (whole 382 254) (block 0 0 +x 192 +y 254 ∷ block 192 0 +x 190 +y 254 ∷ [])
    ∷ cut (whole 383 255) (block 0 0 +x 192 +y 255 ∷ block 192 0 +x 191 +y 255 ∷ [])
    ∷ cut (whole 765 510) (block 0 0 +y 256 +x 382 ∷ block 0 256 +x 765 +y 254 ∷ block 764 255 -y 256 -x 383 ∷ [])
    ∷ cut (whole 766 511) (block 0 0 +y 256 +x 383 ∷ block 0 256 +x 766 +y 255 ∷ block 765 255 -y 256 -x 383 ∷ [])
    ∷ cut (whole 766 510) (block 0 0 +x 384 +y 510 ∷ block 384 0 +x 382 +y 510 ∷ [])
    ∷ cut (whole 767 511) (block 0 0 +x 384 +y 511 ∷ block 384 0 +x 383 +y 511 ∷ [])
    ∷ cut (whole 1023 682) (block 0 0 +y 342 +x 511 ∷ block 0 342 +x 1023 +y 340 ∷ block 1022 341 -y 342 -x 512 ∷ [])
    ∷ cut (whole 1024 683) (block 0 0 +y 342 +x 512 ∷ block 0 342 +x 1024 +y 341 ∷ block 1023 341 -y 342 -x 512 ∷ [])
    ∷ cut (whole 1024 682) (block 0 0 +x 512 +y 682 ∷ block 512 0 +x 512 +y 682 ∷ [])
    ∷ cut (whole 1025 683) (block 0 0 +x 512 +y 683 ∷ block 512 0 +x 513 +y 683 ∷ [])
    ∷ cut (whole 3069 2046) (block 0 0 +y 1024 +x 1534 ∷ block 0 1024 +x 3069 +y 1022 ∷ block 3068 1023 -y 1024 -x 1535 ∷ [])
    ∷ cut (whole 3070 2047) (block 0 0 +y 1024 +x 1535 ∷ block 0 1024 +x 3070 +y 1023 ∷ block 3069 1023 -y 1024 -x 1535 ∷ [])
    ∷ cut (whole 3070 2046) (block 0 0 +x 1536 +y 2046 ∷ block 1536 0 +x 1534 +y 2046 ∷ [])
    ∷ cut (whole 3071 2047) (block 0 0 +x 1536 +y 2047 ∷ block 1536 0 +x 1535 +y 2047 ∷ [])
    ∷ cut (whole 5013 3342) (block 0 0 +y 1672 +x 2506 ∷ block 0 1672 +x 5013 +y 1670 ∷ block 5012 1671 -y 1672 -x 2507 ∷ [])
    ∷ cut (whole 5014 3343) (block 0 0 +y 1672 +x 2507 ∷ block 0 1672 +x 5014 +y 1671 ∷ block 5013 1671 -y 1672 -x 2507 ∷ [])
    ∷ cut (whole 5014 3342) (block 0 0 +x 2508 +y 3342 ∷ block 2508 0 +x 2506 +y 3342 ∷ [])
    ∷ cut (whole 5015 3343) (block 0 0 +x 2508 +y 3343 ∷ block 2508 0 +x 2507 +y 3343 ∷ [])
    ∷ cut (whole 8193 5462) (block 0 0 +y 2732 +x 4096 ∷ block 0 2732 +x 8193 +y 2730 ∷ block 8192 2731 -y 2732 -x 4097 ∷ [])
    ∷ cut (whole 8194 5463) (block 0 0 +y 2732 +x 4097 ∷ block 0 2732 +x 8194 +y 2731 ∷ block 8193 2731 -y 2732 -x 4097 ∷ [])
    ∷ cut (whole 8194 5462) (block 0 0 +x 4098 +y 5462 ∷ block 4098 0 +x 4096 +y 5462 ∷ [])
    ∷ cut (whole 8195 5463) (block 0 0 +x 4098 +y 5463 ∷ block 4098 0 +x 4097 +y 5463 ∷ [])
    ∷ cut (whole 16383 10922) (block 0 0 +y 5462 +x 8191 ∷ block 0 5462 +x 16383 +y 5460 ∷ block 16382 5461 -y 5462 -x 8192 ∷ [])
    ∷ cut (whole 16384 10923) (block 0 0 +y 5462 +x 8192 ∷ block 0 5462 +x 16384 +y 5461 ∷ block 16383 5461 -y 5462 -x 8192 ∷ [])
    ∷ cut (whole 16384 10922) (block 0 0 +x 8192 +y 10922 ∷ block 8192 0 +x 8192 +y 10922 ∷ [])
    ∷ cut (whole 16385 10923) (block 0 0 +x 8192 +y 10923 ∷ block 8192 0 +x 8193 +y 10923 ∷ [])
    ∷ cut (whole 24573 16382) (block 0 0 +y 8192 +x 12286 ∷ block 0 8192 +x 24573 +y 8190 ∷ block 24572 8191 -y 8192 -x 12287 ∷ [])
    ∷ cut (whole 24574 16383) (block 0 0 +y 8192 +x 12287 ∷ block 0 8192 +x 24574 +y 8191 ∷ block 24573 8191 -y 8192 -x 12287 ∷ [])
    ∷ cut (whole 24574 16382) (block 0 0 +x 12288 +y 16382 ∷ block 12288 0 +x 12286 +y 16382 ∷ [])
    ∷ cut (whole 24575 16383) (block 0 0 +x 12288 +y 16383 ∷ block 12288 0 +x 12287 +y 16383 ∷ [])
    ∷ cut (whole 32766 21844) (block 0 0 +y 10922 +x 16383 ∷ block 0 10922 +x 32766 +y 10922 ∷ block 32765 10921 -y 10922 -x 16383 ∷ [])
    ∷ cut (whole 32767 21845) (block 0 0 +y 10922 +x 16383 ∷ block 0 10922 +x 32767 +y 10923 ∷ block 32766 10921 -y 10922 -x 16384 ∷ [])
    ∷ cut (whole 32767 21844) (block 0 0 +x 16384 +y 21844 ∷ block 16384 0 +x 16383 +y 21844 ∷ [])
    ∷ cut (whole 32768 21845) (block 0 0 +x 16384 +y 21845 ∷ block 16384 0 +x 16384 +y 21845 ∷ [])
    ∷ cut (whole 49149 32766) (block 0 0 +y 16384 +x 24574 ∷ block 0 16384 +x 49149 +y 16382 ∷ block 49148 16383 -y 16384 -x 24575 ∷ [])
    ∷ cut (whole 49150 32767) (block 0 0 +y 16384 +x 24575 ∷ block 0 16384 +x 49150 +y 16383 ∷ block 49149 16383 -y 16384 -x 24575 ∷ [])
    ∷ cut (whole 49150 32766) (block 0 0 +x 24576 +y 32766 ∷ block 24576 0 +x 24574 +y 32766 ∷ [])
    ∷ cut (whole 49151 32767) (block 0 0 +x 24576 +y 32767 ∷ block 24576 0 +x 24575 +y 32767 ∷ [])
    ∷ cut (whole 59997 39998) (block 0 0 +y 20000 +x 29998 ∷ block 0 20000 +x 59997 +y 19998 ∷ block 59996 19999 -y 20000 -x 29999 ∷ [])
    ∷ cut (whole 59998 39999) (block 0 0 +y 20000 +x 29999 ∷ block 0 20000 +x 59998 +y 19999 ∷ block 59997 19999 -y 20000 -x 29999 ∷ [])
    ∷ cut (whole 59998 39998) (block 0 0 +x 30000 +y 39998 ∷ block 30000 0 +x 29998 +y 39998 ∷ [])
    ∷ cut (whole 59999 39999) (block 0 0 +x 30000 +y 39999 ∷ block 30000 0 +x 29999 +y 39999 ∷ [])
    ∷ cut (whole 65529 43686) (block 0 0 +y 21844 +x 32764 ∷ block 0 21844 +x 65529 +y 21842 ∷ block 65528 21843 -y 21844 -x 32765 ∷ [])
    ∷ cut (whole 65530 43687) (block 0 0 +y 21844 +x 32765 ∷ block 0 21844 +x 65530 +y 21843 ∷ block 65529 21843 -y 21844 -x 32765 ∷ [])
    ∷ cut (whole 65530 43686) (block 0 0 +x 32766 +y 43686 ∷ block 32766 0 +x 32764 +y 43686 ∷ [])
    ∷ cut (whole 65531 43687) (block 0 0 +x 32766 +y 43687 ∷ block 32766 0 +x 32765 +y 43687 ∷ [])
    ∷ cut (whole 65532 43688) (block 0 0 +y 21844 +x 32766 ∷ block 0 21844 +x 65532 +y 21844 ∷ block 65531 21843 -y 21844 -x 32766 ∷ [])
    ∷ cut (whole 65533 43689) (block 0 0 +y 21844 +x 32766 ∷ block 0 21844 +x 65533 +y 21845 ∷ block 65532 21843 -y 21844 -x 32767 ∷ [])
    ∷ cut (whole 65533 43688) (block 0 0 +x 32766 +y 43688 ∷ block 32766 0 +x 32767 +y 43688 ∷ [])
    ∷ cut (whole 65534 43689) (block 0 0 +x 32768 +y 43689 ∷ block 32768 0 +x 32766 +y 43689 ∷ [])
    ∷ cut (whole 65535 43690) (block 0 0 +y 21846 +x 32767 ∷ block 0 21846 +x 65535 +y 21844 ∷ block 65534 21845 -y 21846 -x 32768 ∷ [])
    -- Areas about square, with m and e odd and even; narrow and tall ones; wide ones.
    ∷ cut (whole 13 13) (block 0 0 +y 6 +x 6 ∷ block 0 6 +x 13 +y 7 ∷ block 12 5 -y 6 -x 7 ∷ [])
    ∷ cut (whole 13 14) (block 0 0 +y 8 +x 6 ∷ block 0 8 +x 13 +y 6 ∷ block 12 7 -y 8 -x 7 ∷ [])
    ∷ cut (whole 14 13) (block 0 0 +y 6 +x 7 ∷ block 0 6 +x 14 +y 7 ∷ block 13 5 -y 6 -x 7 ∷ [])
    ∷ cut (whole 15 15) (block 0 0 +y 8 +x 7 ∷ block 0 8 +x 15 +y 7 ∷ block 14 7 -y 8 -x 8 ∷ [])
    ∷ cut (whole 16 16) (block 0 0 +y 8 +x 8 ∷ block 0 8 +x 16 +y 8 ∷ block 15 7 -y 8 -x 8 ∷ [])
    ∷ cut (whole 17 17) (block 0 0 +y 8 +x 8 ∷ block 0 8 +x 17 +y 9 ∷ block 16 7 -y 8 -x 9 ∷ [])
    ∷ cut (whole 62 63) (block 0 0 +y 32 +x 31 ∷ block 0 32 +x 62 +y 31 ∷ block 61 31 -y 32 -x 31 ∷ [])
    ∷ cut (whole 255 256) (block 0 0 +y 128 +x 127 ∷ block 0 128 +x 255 +y 128 ∷ block 254 127 -y 128 -x 128 ∷ [])
    ∷ cut (whole 999 1000) (block 0 0 +y 500 +x 499 ∷ block 0 500 +x 999 +y 500 ∷ block 998 499 -y 500 -x 500 ∷ [])
    ∷ cut (whole 4096 4096) (block 0 0 +y 2048 +x 2048 ∷ block 0 2048 +x 4096 +y 2048 ∷ block 4095 2047 -y 2048 -x 2048 ∷ [])
    ∷ cut (whole 13 65535) (block 0 0 +y 32768 +x 6 ∷ block 0 32768 +x 13 +y 32767 ∷ block 12 32767 -y 32768 -x 7 ∷ [])
    ∷ cut (whole 14 65534) (block 0 0 +y 32768 +x 7 ∷ block 0 32768 +x 14 +y 32766 ∷ block 13 32767 -y 32768 -x 7 ∷ [])
    ∷ cut (whole 255 65535) (block 0 0 +y 32768 +x 127 ∷ block 0 32768 +x 255 +y 32767 ∷ block 254 32767 -y 32768 -x 128 ∷ [])
    ∷ cut (whole 256 65534) (block 0 0 +y 32768 +x 128 ∷ block 0 32768 +x 256 +y 32766 ∷ block 255 32767 -y 32768 -x 128 ∷ [])
    ∷ cut (whole 2 65533) (block 0 0 +y 32766 +x 1 ∷ block 0 32766 +x 2 +y 32767 ∷ block 1 32765 -y 32766 -x 1 ∷ [])
    ∷ cut (whole 3 65530) (block 0 0 +y 32766 +x 1 ∷ block 0 32766 +x 3 +y 32764 ∷ block 2 32765 -y 32766 -x 2 ∷ [])
    ∷ cut (whole 10923 10922) (block 0 0 +y 5462 +x 5461 ∷ block 0 5462 +x 10923 +y 5460 ∷ block 10922 5461 -y 5462 -x 5462 ∷ [])
    ∷ cut (whole 40000 40000) (block 0 0 +y 20000 +x 20000 ∷ block 0 20000 +x 40000 +y 20000 ∷ block 39999 19999 -y 20000 -x 20000 ∷ [])
    ∷ cut (whole 65533 65532) (block 0 0 +y 32766 +x 32766 ∷ block 0 32766 +x 65533 +y 32766 ∷ block 65532 32765 -y 32766 -x 32767 ∷ [])
    ∷ cut (whole 65531 65531) (block 0 0 +y 32766 +x 32765 ∷ block 0 32766 +x 65531 +y 32765 ∷ block 65530 32765 -y 32766 -x 32766 ∷ [])
    ∷ cut (whole 65534 65534) (block 0 0 +y 32768 +x 32767 ∷ block 0 32768 +x 65534 +y 32766 ∷ block 65533 32767 -y 32768 -x 32767 ∷ [])
    ∷ cut (whole 65535 65535) (block 0 0 +y 32768 +x 32767 ∷ block 0 32768 +x 65535 +y 32767 ∷ block 65534 32767 -y 32768 -x 32768 ∷ [])
    ∷ cut (whole 32767 14) (block 0 0 +x 16384 +y 14 ∷ block 16384 0 +x 16383 +y 14 ∷ [])
    ∷ cut (whole 40002 999) (block 0 0 +x 20002 +y 999 ∷ block 20002 0 +x 20000 +y 999 ∷ [])
    ∷ cut (whole 65530 40000) (block 0 0 +x 32766 +y 40000 ∷ block 32766 0 +x 32764 +y 40000 ∷ [])
    ∷ cut (whole 65531 256) (block 0 0 +x 32766 +y 256 ∷ block 32766 0 +x 32765 +y 256 ∷ [])
    ∷ cut (whole 65534 13) (block 0 0 +x 32768 +y 13 ∷ block 32768 0 +x 32766 +y 13 ∷ [])
    ∷ cut (whole 65535 2) (block 0 0 +x 32768 +y 2 ∷ block 32768 0 +x 32767 +y 2 ∷ [])
    -- Blocks with a start and directions of their own.
    ∷ cut (block 7 9 +y 1000 +x 999) (block 7 9 +x 500 +y 500 ∷ block 507 9 +y 1000 +x 499 ∷ block 506 1008 -x 500 -y 500 ∷ [])
    ∷ cut (block 7 9 +y 62 +x 31) (block 7 9 +y 32 +x 31 ∷ block 7 41 +y 30 +x 31 ∷ [])
    ∷ cut (block 0 32768 +y 32767 +x 65535) (block 0 32768 +x 32768 +y 16383 ∷ block 32768 32768 +y 32767 +x 32767 ∷ block 32767 65534 -x 32768 -y 16384 ∷ [])
    ∷ cut (block 65534 32767 -y 32768 -x 32768)
    (block 65534 32767 -x 16384 -y 16384 ∷ block 49150 32767 -y 32768 -x 16384 ∷ block 49151 0 +x 16384 +y 16384 ∷ [])
    ∷ cut (block 40000 65534 -y 65535 -x 15) (block 40000 65534 -y 32768 -x 15 ∷ block 40000 32766 -y 32767 -x 15 ∷ [])
    ∷ cut (block 1000 500 -x 255 -y 257) (block 1000 500 -y 128 -x 127 ∷ block 1000 372 -x 255 -y 129 ∷ block 746 373 +y 128 +x 128 ∷ [])
    ∷ cut (block 65534 65534 -x 65535 -y 65534)
    (block 65534 65534 -y 32768 -x 32767 ∷ block 65534 32766 -x 65535 -y 32766 ∷ block 0 32767 +y 32768 +x 32768 ∷ [])
    ∷ cut (block 65534 40000 -x 65534 -y 33) (block 65534 40000 -x 32768 -y 33 ∷ block 32766 40000 -x 32766 -y 33 ∷ [])
    ∷ []

pub single_cuts_right : T (all_cut_right single_cuts)
unfolding single_cuts all_cut_right
single_cuts_right = tt
