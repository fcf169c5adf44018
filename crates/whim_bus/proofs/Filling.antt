-- The out bytes of a row, as a list and by their places. Assumes nothing.
use Rattle.std.proofs.Common.{◌≡◌, ℕ, zero, suc, ◌≤◌, List, ◌∷◌, ◌++◌, [], length, get_or, take, refl, sym, ap, ◌∙◌, arith, take-suc}
use Rattle.std.specs.List.{slice_index}
use Rattle.shelf.specs.declared.Way.{Way}
use Rattle.shelf.specs.declared.Way.TheVariants.{Out}
use Rattle.shelf.specs.Serving.{firsts, outs}

firsts_are : (n : ℕ) (xs : List ℕ) → n ≤ length xs → firsts n (slice_index xs) ≡ take n xs
firsts_are zero xs l = refl
firsts_are (suc n) xs l = ap (λ (ys : List ℕ). ys ++ get_or xs n 0 ∷ []) (firsts_are n xs (omega arith)) ∙ sym (take-suc xs n 0 (omega arith))

-- the first bytes of a row go out with an out command
pub outs_first : (w : Way) (m n : ℕ) (xs : List ℕ) → w ≡ Out → m ≡ n → n ≤ length xs → take m xs ≡ outs w n (slice_index xs)
outs_first w m n xs h e l =
    ap (λ (i : ℕ). take i xs) e ∙ sym (firsts_are n xs l) ∙ ap (λ (v : Way). outs v n (slice_index xs)) (sym h)
