-- The risers at which the winding number of the chosen domains changes: by them alone the winding number is the same everywhere.
use Rattle.std.proofs.Common.{◌≡◌, ◌≢◌, ℕ, ◌+◌, ◌==◌, not, Bool, true, false, List, [], ◌∷◌, Contains, filter, sym, ◌∙◌, subst, refl, arith, cond}
use lib.IntN.{ℤ, pos, ◌-ℤ◌}
use Rattle.std.proofs.lemmas.Int.{ints}
use Rattle.std.proofs.lemmas.List.Elements.{All-filter, All-contains_itself}
use Rattle.grid_geom.specs.declared.RatPoint.{RatPoint}
use Rattle.grid_geom.specs.Plane.{orient_rat}
use Rattle.grid_geom.specs.Winding.{and}
use Rattle.geom_check.specs.declared.risers.Riser.{Riser}
use Rattle.geom_check.specs.Accepted.{IsZeroOrOne}
use Rattle.geom_check.specs.Risers.{covers, is_beside, one_if, wests, easts, winding_of}
use Rattle.geom_check.specs.RiserOrder.{IsSoundAll, is_border}
use Rattle.geom_check.proofs.RiserWinding.{winding_cons}

-- a riser that is left out counts alike on both sides
alike : (c w e : Bool) → not (one_if w == one_if e) ≡ false → one_if (and c w) ≡ one_if (and c e)
alike c true true h = refl
alike c true false h = absurd (grind arith)
alike c false true h = absurd (grind arith)
alike c false false h = refl

pub winding_borders : (chosen : ℕ → Bool) (q : RatPoint) (rs : List Riser) → winding_of chosen q (filter (is_border chosen) rs) ≡ winding_of chosen q rs
winding_borders chosen q [] = refl
winding_borders chosen q (r ∷ rs) = by_test (is_border chosen r) refl (winding_borders chosen q rs)
  where
    both : (w e a b m n : ℕ) → pos m -ℤ pos n ≡ pos a -ℤ pos b → pos (w + m) -ℤ pos (e + n) ≡ pos (w + a) -ℤ pos (e + b)
    both w e a b m n h = omega (arith, ints)

    neither : (w e a b m n : ℕ) → w ≡ e → pos m -ℤ pos n ≡ pos a -ℤ pos b → pos m -ℤ pos n ≡ pos (w + a) -ℤ pos (e + b)
    neither w e a b m n f h = omega (arith, ints)

    by_test : (b : Bool) → is_border chosen r ≡ b → winding_of chosen q (filter (is_border chosen) rs) ≡ winding_of chosen q rs → winding_of chosen q (cond b (r ∷ filter (is_border chosen) rs) (filter (is_border chosen) rs)) ≡ winding_of chosen q (r ∷ rs)
    by_test true e h =
        winding_cons chosen q r (filter (is_border chosen) rs)
        ∙ both (one_if (and (covers q r) (chosen r.west))) (one_if (and (covers q r) (chosen r.east))) (wests chosen q rs) (easts chosen q rs) (wests chosen q (filter (is_border chosen) rs)) (easts chosen q (filter (is_border chosen) rs)) h
        ∙ sym (winding_cons chosen q r rs)
    by_test false e h =
        neither (one_if (and (covers q r) (chosen r.west))) (one_if (and (covers q r) (chosen r.east))) (wests chosen q rs) (easts chosen q rs) (wests chosen q (filter (is_border chosen) rs)) (easts chosen q (filter (is_border chosen) rs)) (alike (covers q r) (chosen r.west) (chosen r.east) e) h
        ∙ sym (winding_cons chosen q r rs)

-- where the winding number is 0 or 1 off the borders, it is so off all risers
pub sound_borders : (chosen : ℕ → Bool) (rs : List Riser) → IsSoundAll chosen (filter (is_border chosen) rs) → IsSoundAll chosen rs
sound_borders chosen rs sound q rational off = subst (λ (n : ℤ). IsZeroOrOne n) (winding_borders chosen q rs) (sound q rational (All-filter (is_border chosen) (λ r. is_beside q r ≡ true → orient_rat r.a r.b q ≢ pos 0) rs off))

-- a border is one of the risers
pub border_among : (chosen : ℕ → Bool) (rs : List Riser) (r : Riser) → Contains (filter (is_border chosen) rs) r → Contains rs r
border_among chosen rs r c = subst (λ (x : Riser). Contains rs x) c.2 (All-filter (is_border chosen) (Contains rs) rs (All-contains_itself rs) c.0 r c.1)
