-- A row's value is its numerator over 10^8 q: the sums of `Places` and those of `Sums` are one. Stands on Frames.
use Prim.Native.Nat.{ℕ, ◌≤◌}
use lib.IntN.{ℤ, pos, ◌+ℤ◌, ◌-ℤ◌, ◌*ℤ◌}
use lib.Signed.{◌<ℤ◌}
use mathlib.Core.Bool.{Bool, true, false}
use mathlib.Core.List.{List, [], ◌∷◌}
use mathlib.Core.Path.{◌≡◌, refl, sym, ap, ◌∙◌, subst}
use native.Mathlib.Omega.{arith}
use Rattle.std.proofs.lemmas.Int.{ints}
use Rattle.grid_geom.proofs.Ring.{var, num, ◌⊕◌, ◌⊖◌, ◌⊗◌, ring}
use Rattle.grid_geom.proofs.Signs.{pos_mul}
use Rattle.rule_reader.specs.declared.rule.Term.{Term}
use Rattle.rule_maps.specs.Fractions.{Fraction, IsFraction, minus}
use Rattle.rule_maps.specs.Frame.{way, dot, cross}
use Rattle.rule_maps.specs.Places.{Mapping, number, mapped_at, point_at, either, deviation, sum_of, row_value, mix}
use Rattle.rule_maps.specs.Sums.{seen_at, rest_at, moving, resting, constant, numerator}

-- x is n over d
pub record IsOver (x : Fraction) (n d : ℤ) : Type 0 where
  pub fraction : IsFraction x
  pub crossed : x.top *ℤ d ≡ n *ℤ x.bottom

-- a term's deviation, whichever coordinate it is of
abbrev pub difference : ℤ → ℤ → ℤ → Fraction
difference s r q = record { top = s *ℤ pos 10000 -ℤ r *ℤ q; bottom = q *ℤ pos 10000 }

deviation_by : (of_y : Bool) (u v x y q : ℤ) → minus (either {A = Fraction} of_y (record { top = u; bottom = q }) (record { top = v; bottom = q })) (number (either of_y x y)) ≡ difference (either of_y u v) (either of_y x y) q
deviation_by false u v x y q = refl
deviation_by true u v x y q = refl

deviation_is : (m : Mapping) (t : Term) → deviation m t ≡ difference (seen_at m.frame m.mapped t) (rest_at m.rule.points t) m.frame.q
deviation_is m t = deviation_by t.of_y (dot m.frame.e (way m.frame.p1 (mapped_at m.mapped t.point))) (cross m.frame.e (way m.frame.p1 (mapped_at m.mapped t.point))) (point_at m.rule.points t.point).x (point_at m.rule.points t.point).y m.frame.q

-- one term more
more : (c s r q S B M R : ℤ) → S *ℤ (pos 100000000 *ℤ q) ≡ (pos 10000 *ℤ M -ℤ q *ℤ R) *ℤ B →
    (c *ℤ (s *ℤ pos 10000 -ℤ r *ℤ q) *ℤ B +ℤ S *ℤ (pos 10000 *ℤ (q *ℤ pos 10000))) *ℤ (pos 100000000 *ℤ q) ≡ (pos 10000 *ℤ (c *ℤ s +ℤ M) -ℤ q *ℤ (c *ℤ r +ℤ R)) *ℤ (pos 10000 *ℤ (q *ℤ pos 10000) *ℤ B)
more c s r q S B M R e =
    ring (c ∷ s ∷ r ∷ q ∷ S ∷ B ∷ []) ((var 0 ⊗ (var 1 ⊗ num (pos 10000) ⊖ var 2 ⊗ var 3) ⊗ var 5 ⊕ var 4 ⊗ (num (pos 10000) ⊗ (var 3 ⊗ num (pos 10000)))) ⊗ (num (pos 100000000) ⊗ var 3))
    (var 0 ⊗ (var 1 ⊗ num (pos 10000) ⊖ var 2 ⊗ var 3) ⊗ var 5 ⊗ (num (pos 100000000) ⊗ var 3) ⊕ (num (pos 10000) ⊗ (var 3 ⊗ num (pos 10000))) ⊗ (var 4 ⊗ (num (pos 100000000) ⊗ var 3))) refl
    ∙ ap (λ (z : ℤ). c *ℤ (s *ℤ pos 10000 -ℤ r *ℤ q) *ℤ B *ℤ (pos 100000000 *ℤ q) +ℤ pos 10000 *ℤ (q *ℤ pos 10000) *ℤ z) e
    ∙ ring (c ∷ s ∷ r ∷ q ∷ B ∷ M ∷ R ∷ []) (var 0 ⊗ (var 1 ⊗ num (pos 10000) ⊖ var 2 ⊗ var 3) ⊗ var 4 ⊗ (num (pos 100000000) ⊗ var 3) ⊕ (num (pos 10000) ⊗ (var 3 ⊗ num (pos 10000))) ⊗ ((num (pos 10000) ⊗ var 5 ⊖ var 3 ⊗ var 6) ⊗ var 4))
    ((num (pos 10000) ⊗ (var 0 ⊗ var 1 ⊕ var 5) ⊖ var 3 ⊗ (var 0 ⊗ var 2 ⊕ var 6)) ⊗ (num (pos 10000) ⊗ (var 3 ⊗ num (pos 10000)) ⊗ var 4)) refl

sum_is : (m : Mapping) (ts : List Term) → pos 0 <ℤ m.frame.q → IsOver (sum_of m ts) (pos 10000 *ℤ moving m.frame m.mapped ts -ℤ m.frame.q *ℤ resting m.rule.points ts) (pos 100000000 *ℤ m.frame.q)
sum_is m [] hq = record { fraction = record { positive = omega (arith, ints) }; crossed = omega (arith, ints) }
sum_is m (t ∷ ts) hq = elim_by (deviation m t) (deviation_is m t) (sum_is m ts hq)
  where
    elim_by : (x : Fraction) → x ≡ difference (seen_at m.frame m.mapped t) (rest_at m.rule.points t) m.frame.q →
        IsOver (sum_of m ts) (pos 10000 *ℤ moving m.frame m.mapped ts -ℤ m.frame.q *ℤ resting m.rule.points ts) (pos 100000000 *ℤ m.frame.q) →
        IsOver (record { top = t.coefficient *ℤ x.top *ℤ (sum_of m ts).bottom +ℤ (sum_of m ts).top *ℤ (pos 10000 *ℤ x.bottom); bottom = pos 10000 *ℤ x.bottom *ℤ (sum_of m ts).bottom })
        (pos 10000 *ℤ moving m.frame m.mapped (t ∷ ts) -ℤ m.frame.q *ℤ resting m.rule.points (t ∷ ts)) (pos 100000000 *ℤ m.frame.q)
    elim_by x e h = subst (λ (y : Fraction). IsOver (record { top = t.coefficient *ℤ y.top *ℤ (sum_of m ts).bottom +ℤ (sum_of m ts).top *ℤ (pos 10000 *ℤ y.bottom); bottom = pos 10000 *ℤ y.bottom *ℤ (sum_of m ts).bottom })
        (pos 10000 *ℤ moving m.frame m.mapped (t ∷ ts) -ℤ m.frame.q *ℤ resting m.rule.points (t ∷ ts)) (pos 100000000 *ℤ m.frame.q)) (sym e) (record {
          fraction = record { positive = pos_mul (pos 10000 *ℤ (m.frame.q *ℤ pos 10000)) (sum_of m ts).bottom (omega (arith, ints, hq)) h.fraction.positive };
          crossed = more t.coefficient (seen_at m.frame m.mapped t) (rest_at m.rule.points t) m.frame.q (sum_of m ts).top (sum_of m ts).bottom (moving m.frame m.mapped ts) (resting m.rule.points ts) h.crossed;
        })

-- with the place's own number
begun : (x0 q S B M R : ℤ) → S *ℤ (pos 100000000 *ℤ q) ≡ (pos 10000 *ℤ M -ℤ q *ℤ R) *ℤ B → (x0 *ℤ B +ℤ S *ℤ pos 10000) *ℤ (pos 100000000 *ℤ q) ≡ ((pos 10000 *ℤ x0 -ℤ R) *ℤ q +ℤ pos 10000 *ℤ M) *ℤ (pos 10000 *ℤ B)
begun x0 q S B M R e =
    ring (x0 ∷ q ∷ S ∷ B ∷ []) ((var 0 ⊗ var 3 ⊕ var 2 ⊗ num (pos 10000)) ⊗ (num (pos 100000000) ⊗ var 1)) (var 0 ⊗ var 3 ⊗ (num (pos 100000000) ⊗ var 1) ⊕ num (pos 10000) ⊗ (var 2 ⊗ (num (pos 100000000) ⊗ var 1))) refl
    ∙ ap (λ (z : ℤ). x0 *ℤ B *ℤ (pos 100000000 *ℤ q) +ℤ pos 10000 *ℤ z) e
    ∙ ring (x0 ∷ q ∷ B ∷ M ∷ R ∷ []) (var 0 ⊗ var 2 ⊗ (num (pos 100000000) ⊗ var 1) ⊕ num (pos 10000) ⊗ ((num (pos 10000) ⊗ var 3 ⊖ var 1 ⊗ var 4) ⊗ var 2)) (((num (pos 10000) ⊗ var 0 ⊖ var 4) ⊗ var 1 ⊕ num (pos 10000) ⊗ var 3) ⊗ (num (pos 10000) ⊗ var 2)) refl

pub row_is : (m : Mapping) (x0 : ℤ) (row : List Term) → pos 0 <ℤ m.frame.q → IsOver (row_value m x0 row) (numerator m.frame m.mapped (constant m.rule.points x0 row) row) (pos 100000000 *ℤ m.frame.q)
row_is m x0 row hq = let h : IsOver (sum_of m row) (pos 10000 *ℤ moving m.frame m.mapped row -ℤ m.frame.q *ℤ resting m.rule.points row) (pos 100000000 *ℤ m.frame.q) = sum_is m row hq in record {
  fraction = record { positive = omega (arith, ints, h.fraction.positive) };
  crossed = begun x0 m.frame.q (sum_of m row).top (sum_of m row).bottom (moving m.frame m.mapped row) (resting m.rule.points row) h.crossed;
}

-- both shapes of a corner mixed: with w = 2 class - 2 and k = w + 1
mixing : (w k q at ab lt lb na nl : ℤ) → at *ℤ (pos 100000000 *ℤ q) ≡ na *ℤ ab → lt *ℤ (pos 100000000 *ℤ q) ≡ nl *ℤ lb →
    (at *ℤ (pos 1 *ℤ lb) +ℤ w *ℤ lt *ℤ ab) *ℤ (pos 100000000 *ℤ k *ℤ q) ≡ (na +ℤ w *ℤ nl) *ℤ (ab *ℤ (pos 1 *ℤ lb) *ℤ k)
mixing w k q at ab lt lb na nl e g =
    ring (w ∷ k ∷ q ∷ at ∷ ab ∷ lt ∷ lb ∷ []) ((var 3 ⊗ (num (pos 1) ⊗ var 6) ⊕ var 0 ⊗ var 5 ⊗ var 4) ⊗ (num (pos 100000000) ⊗ var 1 ⊗ var 2)) (var 6 ⊗ var 1 ⊗ (var 3 ⊗ (num (pos 100000000) ⊗ var 2)) ⊕ var 0 ⊗ var 4 ⊗ var 1 ⊗ (var 5 ⊗ (num (pos 100000000) ⊗ var 2))) refl
    ∙ ap (λ (z : ℤ). lb *ℤ k *ℤ z +ℤ w *ℤ ab *ℤ k *ℤ (lt *ℤ (pos 100000000 *ℤ q))) e
    ∙ ap (λ (z : ℤ). lb *ℤ k *ℤ (na *ℤ ab) +ℤ w *ℤ ab *ℤ k *ℤ z) g
    ∙ ring (w ∷ k ∷ ab ∷ lb ∷ na ∷ nl ∷ []) (var 3 ⊗ var 1 ⊗ (var 4 ⊗ var 2) ⊕ var 0 ⊗ var 2 ⊗ var 1 ⊗ (var 5 ⊗ var 3)) ((var 4 ⊕ var 0 ⊗ var 5) ⊗ (var 2 ⊗ (num (pos 1) ⊗ var 3) ⊗ var 1)) refl

pub mix_is : (class : ℕ) (q : ℤ) (a l : Fraction) (na nl : ℤ) → 1 ≤ class → IsOver a na (pos 100000000 *ℤ q) → IsOver l nl (pos 100000000 *ℤ q) →
    IsOver (mix class a l) (na +ℤ (pos 2 *ℤ pos class -ℤ pos 2) *ℤ nl) (pos 100000000 *ℤ (pos 2 *ℤ pos class -ℤ pos 1) *ℤ q)
mix_is class q a l na nl hc ha hl = record {
  fraction = record { positive = pos_mul (a.bottom *ℤ (pos 1 *ℤ l.bottom)) (pos 2 *ℤ pos class -ℤ pos 1) (pos_mul a.bottom (pos 1 *ℤ l.bottom) ha.fraction.positive (omega (arith, ints, hl.fraction.positive))) (omega (arith, ints, hc)) };
  crossed = mixing (pos 2 *ℤ pos class -ℤ pos 2) (pos 2 *ℤ pos class -ℤ pos 1) q a.top a.bottom l.top l.bottom na nl ha.crossed hl.crossed;
}
