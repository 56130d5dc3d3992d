-- Two least candidates of a line and class have one rule and one assignment.
use Prim.Native.Nat.{ℕ}
use mathlib.Core.Path.{◌≡◌, refl, sym, subst, ap, ◌∙◌}
use mathlib.Core.Bool.{Bool, true, false, true≢false}
use mathlib.Core.List.{List}
use Rattle.std.specs.declared.cmp.Ordering.{Ordering}
use Rattle.std.specs.declared.cmp.Ordering.TheVariants.{Less, Equal, Greater}
use Rattle.std.specs.Ordering.{nat_cmp, is_gt, ordering_reverse, ordering_then}
use Rattle.std.specs.Cmp.Lexicographic.{slice_cmp}
use Rattle.std.proofs.lemmas.Cmp.{ranked}
use Rattle.std.proofs.lemmas.Map.Lookups.{exact_bytes}
use Rattle.rule_reader.specs.declared.rule.Rule.{Rule}
use Rattle.size_field.specs.Size.{SizeField}
use Rattle.state_law.specs.State.{State}
use Rattle.rule_match.specs.declared.found.Found.{Found}
use Rattle.rule_match.specs.Order.{badness_cmp, rank_cmp}
use Rattle.rule_match.specs.Candidate.{Attempt}
use Rattle.rule_match.specs.Least.{IsLeast, rank}
use Rattle.rule_match.proofs.RankOrder.{rank_total}

level : (r s : Ordering) → r ≡ ordering_reverse s → is_gt r ≡ false → is_gt s ≡ false → r ≡ Equal
level r Less e h k = absurd (true≢false (ap is_gt (sym e) ∙ h))
level r Equal e h k = e
level r Greater e h k = absurd (true≢false k)

first_level : (r s : Ordering) → ordering_then r s ≡ Equal → r ≡ Equal
first_level Less s e = absurd (true≢false (ap is_less e))
  where
    is_less : Ordering → Bool
    is_less Less = true
    is_less Equal = false
    is_less Greater = false
first_level Equal s e = refl
first_level Greater s e = absurd (true≢false (ap is_gt e))

then_level : (r s : Ordering) → ordering_then r s ≡ Equal → s ≡ Equal
then_level r s e = subst (λ (z : Ordering). ordering_then z s ≡ Equal) (first_level r s e) e

same_number : (m n : ℕ) → nat_cmp m n ≡ Equal → m ≡ n
same_number m n e = ranked m n Equal (sym e)

pub one_rank : (x y : Found) → is_gt (rank_cmp x y) ≡ false → is_gt (rank_cmp y x) ≡ false → (x.rule ≡ y.rule) × (x.points ≡ y.points)
one_rank x y h k =
    let e : rank_cmp x y ≡ Equal = level (rank_cmp x y) (rank_cmp y x) (rank_total.antisymm x y) h k in
    let f : ordering_then (nat_cmp x.rule y.rule) (slice_cmp nat_cmp x.points y.points) ≡ Equal = then_level (badness_cmp x.badness y.badness) (ordering_then (nat_cmp x.rule y.rule) (slice_cmp nat_cmp x.points y.points)) e in
    (same_number x.rule y.rule (first_level (nat_cmp x.rule y.rule) (slice_cmp nat_cmp x.points y.points) f), exact_bytes x.points y.points (then_level (nat_cmp x.rule y.rule) (slice_cmp nat_cmp x.points y.points) f))

pub one_least : (sizes : SizeField) (st : State) (rules : List Rule) (line class : ℕ) (t u : Attempt) → IsLeast sizes st rules line class t → IsLeast sizes st rules line class u → (t.rule ≡ u.rule) × (t.points ≡ u.points)
one_least sizes st rules line class t u h k = one_rank (rank st t) (rank st u) (h.least u k.of k.candidate) (k.least t h.of h.candidate)
