-- Sides that may be glued to lines one after another, by numbers: for proofs.
use Rattle.std.specs.Prelude.{◌≡◌, ℕ, None, List, [], ◌∷◌}
use Rattle.std.specs.List.{AllByRecursion}
use Rattle.state_law.specs.State.{IsListed}
use Rattle.front_chain.specs.Front.{number_between}

-- no side of the list is a later one
abbrev pub AreApart : List (ℕ × ℕ) → Type 0
AreApart [] = Unit {0}
AreApart (s ∷ ss) = AllByRecursion (λ t. ¬ (s ≡ t)) ss × AreApart ss

-- the sides join listed points, no line is one of them reversed, and they are different
pub record CanJoin (points : ℕ) (lines : List (ℕ × ℕ × ℕ)) (ss : List (ℕ × ℕ)) : Type 0 where
  pub listed : AllByRecursion (λ s. IsListed points s.0 × IsListed points s.1) ss
  pub not_backwards : AllByRecursion (λ s. number_between lines s.1 s.0 ≡ None) ss
  pub apart : AreApart ss
