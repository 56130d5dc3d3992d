-- Reaches by class, one more at a time.
use Rattle.std.proofs.Common.{◌≡◌, ℕ, ◌+◌, ◌<◌, ◌≤◌, ◌⊎◌, inl, inr, List, [], ◌∷◌, ◌++◌, length, slice_index_or, sym, ap, ◌∙◌, subst, arith}
use Rattle.std.specs.List.{AllByRecursion}
use Rattle.std.proofs.lemmas.List.{get_or_append_left, get_or_push, length_push}
use Rattle.rule_reader.specs.declared.rule.Rule.{Rule}
use Rattle.rule_match.specs.Near.{IsCoveredAt, IsCoveredBy}

-- each of the reaches covers the rules up to its class
abbrev pub DoCover : List Rule → List ℕ → Type 0
DoCover rules reaches = (class : ℕ) → class < length reaches → AllByRecursion (IsCoveredAt class (slice_index_or reaches class 0)) rules

pub one_more_long : (reaches later : List ℕ) (class n : ℕ) → later ≡ reaches ++ n ∷ [] → length reaches ≡ class → length later ≡ class + 1
one_more_long reaches later class n e long = ap length e ∙ length_push reaches n ∙ ap (λ (m : ℕ). m + 1) long

-- each of the reaches is no greater than a number that covers the rules at all classes
abbrev pub AreNoGreater : List Rule → List ℕ → Type 0
AreNoGreater rules reaches = (class : ℕ) → class < length reaches → (n : ℕ) → AllByRecursion (IsCoveredBy n) rules → slice_index_or reaches class 0 ≤ n

-- what each number of a list has by its place, each has in one that is one longer
pub one_more_each : (P : ℕ → ℕ → Type 0) (reaches later : List ℕ) (class n : ℕ) → later ≡ reaches ++ n ∷ [] → length reaches ≡ class → ((k : ℕ) → k < length reaches → P k (slice_index_or reaches k 0)) → P class n
    → (k : ℕ) → k < length later → P k (slice_index_or later k 0)
one_more_each P reaches later class n e long h new k l = by (split k (length reaches) (length later) (ap length e ∙ length_push reaches n) l)
  where
    split : (k m more : ℕ) → more ≡ m + 1 → k < more → (k < m) ⊎ (k ≡ m)
    split k m more e l = grind arith

    by : (k < length reaches) ⊎ (k ≡ length reaches) → P k (slice_index_or later k 0)
    by (inl b) = subst (P k) (sym (ap (λ (ns : List ℕ). slice_index_or ns k 0) e ∙ get_or_append_left reaches (n ∷ []) 0 k b)) (h k b)
    by (inr q) = subst (P k) (sym (ap (λ (ns : List ℕ). slice_index_or ns k 0) e ∙ get_or_push reaches n 0 k (sym q))) (subst (λ (c : ℕ). P c n) (sym (q ∙ long)) new)
