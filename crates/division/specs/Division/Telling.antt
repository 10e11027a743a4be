-- Cases of our own, in the form of Worked.antt's and under one claim, which computes as that one does. They tell document 01's rules from rules that
-- come close to them and that the worked cases let pass. The values are those of the independent program in tests/, and tests/telling.rs compares them.
-- The two tables tell "2a > 3b: the long cut. Otherwise: the U cut." from other rules of the form pa > qb + r, and pin for lengths up to 12 "The even half
-- of a length L is L div 2, and one more if L > 2 and L div 2 is odd.", "m = a div 2 (never made even)", and of A that it "runs in the block's side
-- direction". SingleCuts.antt goes on from there.
use Rattle.std.specs.Prelude.{List, [], ◌∷◌, T}
use Rattle.division.specs.Division.{square}
use Rattle.division.specs.Division.Worked.{Case, number_in, traversal, divided, all_right}

pub telling : List Case
telling =
    -- Areas that are cut long, each the narrowest of its height: the first square of Second, and of 11 by 7 that of First too. A whole curve has a line
    -- for each part. By 3a > 5b, and by 2a > 3b + 1, the 5 by 3 would get a U cut, by 5a > 8b the 8 by 5, by 7a > 11b the 11 by 7.
    traversal 5 3 (square 0 0 ∷ square 0 1 ∷ square 0 2 ∷ square 1 2 ∷ square 1 1 ∷ square 1 0
    ∷ square 2 0 ∷ square 2 1 ∷ square 2 2 ∷ square 3 2 ∷ square 4 2 ∷ square 4 1 ∷ square 3 1 ∷ square 3 0 ∷ square 4 0 ∷ [])
    ∷ divided 5 3 12
    ∷ number_in 5 3 6 2 0 3
    ∷ divided 8 5 39
    ∷ number_in 8 5 20 4 0 4
    ∷ divided 10 6 64
    ∷ number_in 10 6 36 6 0 5
    ∷ divided 11 7 69
    ∷ number_in 11 7 42 6 0 5
    ∷ number_in 11 7 0 0 0 5
    -- Areas that get a U cut, each the widest of its height: the first square of B and the last of C, and of 12 by 8 the first of C too. By a > b + 1 all
    -- of them would be cut long, by 2a >= 3b the 6 by 4, the 9 by 6 and the 12 by 8, by 3a > 4b + 2 the 9 by 6 and the 12 by 8, by 5a > 7b + 3 the 12 by 8.
    -- If A ran in the run direction, the 6 by 4 would begin (0, 0) (0, 1).
    ∷ traversal 6 4 (square 0 0 ∷ square 1 0 ∷ square 2 0 ∷ square 2 1 ∷ square 1 1 ∷ square 0 1
    ∷ square 0 2 ∷ square 0 3 ∷ square 1 3 ∷ square 1 2 ∷ square 2 2 ∷ square 2 3 ∷ square 3 3 ∷ square 3 2 ∷ square 4 2 ∷ square 4 3 ∷ square 5 3 ∷ square 5 2
    ∷ square 5 1 ∷ square 4 1 ∷ square 3 1 ∷ square 3 0 ∷ square 4 0 ∷ square 5 0 ∷ [])
    ∷ divided 6 4 23
    ∷ number_in 6 4 6 0 2 5
    ∷ divided 7 5 30
    ∷ number_in 7 5 6 0 2 5
    ∷ number_in 7 5 34 6 0 3
    ∷ divided 9 6 57
    ∷ number_in 9 6 16 0 4 5
    ∷ number_in 9 6 53 8 0 4
    ∷ divided 10 7 65
    ∷ number_in 10 7 20 0 4 6
    ∷ number_in 10 7 69 9 0 4
    ∷ divided 12 8 104
    ∷ number_in 12 8 24 0 4 5
    ∷ number_in 12 8 95 11 0 5
    ∷ number_in 12 8 72 11 3 5
    -- The even half of the side in a U cut: 4 of 6 and 7, where a half left odd is 3 and one made even by taking one off is 2; 4 of 9; 6 of 10, 11 and 12,
    -- where halves left odd from 10 on are 5 of 10 and 11. The last square of A lies in 2 blocks and the first of B in 3. In an area 2 wide only such counts
    -- tell: the curve goes along one column and back along the other, whatever the half.
    ∷ traversal 2 6 (square 0 0 ∷ square 0 1 ∷ square 0 2 ∷ square 0 3
    ∷ square 0 4 ∷ square 0 5 ∷ square 1 5 ∷ square 1 4
    ∷ square 1 3 ∷ square 1 2 ∷ square 1 1 ∷ square 1 0 ∷ [])
    ∷ divided 2 6 7
    ∷ number_in 2 6 3 0 3 2
    ∷ number_in 2 6 4 0 4 3
    ∷ traversal 3 6 (square 0 0 ∷ square 0 1 ∷ square 0 2 ∷ square 0 3
    ∷ square 0 4 ∷ square 0 5 ∷ square 1 5 ∷ square 2 5 ∷ square 2 4 ∷ square 1 4
    ∷ square 2 3 ∷ square 1 3 ∷ square 1 2 ∷ square 2 2 ∷ square 2 1 ∷ square 1 1 ∷ square 1 0 ∷ square 2 0 ∷ [])
    ∷ divided 3 6 15
    ∷ number_in 3 6 3 0 3 2
    ∷ number_in 3 6 4 0 4 3
    ∷ divided 3 7 18
    ∷ number_in 3 7 3 0 3 2
    ∷ number_in 3 7 4 0 4 3
    ∷ divided 3 9 24
    ∷ number_in 3 9 3 0 3 2
    ∷ number_in 3 9 4 0 4 3
    ∷ divided 3 10 26
    ∷ number_in 3 10 5 0 5 2
    ∷ number_in 3 10 6 0 6 3
    ∷ divided 3 11 29
    ∷ number_in 3 11 5 0 5 2
    ∷ number_in 3 11 6 0 6 3
    ∷ divided 3 12 31
    ∷ number_in 3 12 5 0 5 2
    ∷ number_in 3 12 6 0 6 3
    -- The even half of the run in a long cut: 4 of 6, where with 2 the curve is the same but the first square lies in 3 blocks; 4 of 9, and not 5.
    ∷ divided 6 2 14
    ∷ number_in 6 2 0 0 0 4
    ∷ divided 9 2 19
    ∷ number_in 9 2 9 4 1 4
    -- m: 2 of 5, where m rounded up from 5 on is 3; 4 of 8; 5 of 11. Above, 3 of 6 and 7, where m made even from 4 on is 4.
    ∷ traversal 5 4 (square 0 0 ∷ square 1 0 ∷ square 1 1 ∷ square 0 1
    ∷ square 0 2 ∷ square 0 3 ∷ square 1 3 ∷ square 1 2 ∷ square 2 2 ∷ square 2 3 ∷ square 3 3 ∷ square 4 3 ∷ square 4 2 ∷ square 3 2
    ∷ square 4 1 ∷ square 3 1 ∷ square 2 1 ∷ square 2 0 ∷ square 3 0 ∷ square 4 0 ∷ [])
    ∷ divided 5 4 18
    ∷ number_in 5 4 4 0 2 4
    ∷ divided 8 6 56
    ∷ number_in 8 6 16 0 4 5
    ∷ number_in 8 6 47 7 0 4
    ∷ divided 11 8 90
    ∷ number_in 11 8 20 0 4 5
    ∷ number_in 11 8 87 10 0 5
    ∷ []

pub telling_right : T (all_right telling)
unfolding telling all_right
telling_right = tt
