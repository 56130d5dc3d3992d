-- A list whose first item is known.
use Rattle.std.proofs.Common.{◌≡◌, ◌≤◌, List, [], ◌∷◌, length, take, drop, ◌-◌, get_or, sym, ◌∙◌, ap, arith}
use Rattle.std.proofs.Math.Seq.{take-length}

pub first_cut : {A : Type 0} (xs : List A) (x : A) → 1 ≤ length xs → x ≡ get_or xs 0 x → xs ≡ x ∷ take (length xs - 1) (drop 1 xs)
first_cut [] x h e = absurd (omega arith)
first_cut (y ∷ xs) x h e =
    let n : length (y ∷ xs) - 1 ≡ length xs = omega arith in
    let t : take (length (y ∷ xs) - 1) xs ≡ xs = ap (λ k. take k xs) n ∙ take-length xs in
    ap (λ z. z ∷ xs) (sym e) ∙ ap (λ ys. x ∷ ys) (sym t)
