-- Two lists in step with each other, one item more on each.
use Rattle.std.proofs.Common.{◌≡◌, ℕ, ◌+◌, ◌<◌, List, [], ◌∷◌, ◌++◌, length, take, slice_index_or, sym, subst}
use Rattle.std.specs.List.{AllZip}
use Rattle.std.proofs.lemmas.List.{take_more}

zip_push : {A B : Type 0} (R : A → B → Type 0) (xs : List A) (ys : List B) (x : A) (y : B) → AllZip R xs ys → R x y → AllZip R (xs ++ x ∷ []) (ys ++ y ∷ [])
zip_push R [] [] x y h r = (r, tt)
zip_push R [] (z ∷ ys) x y h r = absurd h
zip_push R (z ∷ xs) [] x y h r = absurd h
zip_push R (w ∷ xs) (z ∷ ys) x y h r = (h.0, zip_push R xs ys x y h.1 r)

pub zip_more : {A B : Type 0} (R : A → B → Type 0) (xs : List A) (ys next : List B) (k : ℕ) (d : A) (y : B) → k < length xs → AllZip R (take k xs) ys → R (slice_index_or xs k d) y → next ≡ ys ++ y ∷ [] → AllZip R (take (k + 1) xs) next
zip_more R xs ys next k d y l h r e = subst (AllZip R (take (k + 1) xs)) (sym e) (subst (λ zs. AllZip R zs (ys ++ y ∷ [])) (sym (take_more xs k d l)) (zip_push R (take k xs) ys (slice_index_or xs k d) y h r))
