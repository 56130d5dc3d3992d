-- The application that a find gives: its rule, its points and what the rule makes of them are those of the candidate that it is.
use Rattle.std.proofs.Common.{◌≡◌, ℕ, ◌-◌, ◌≤◌, List, ◌++◌, map, length, slice_index_or, Option, None, Some, refl, sym, ap, ◌∙◌, subst, arith, inl, inr, ◌⊎◌}
use Rattle.std.specs.Prelude.{IfNone}
use Rattle.std.specs.List.{All, AllByRecursion}
use Rattle.std.specs.Option.{IsSome}
use Rattle.std.proofs.lemmas.List.{length-map}
use Rattle.std.proofs.lemmas.List.Elements.{All-from_recursion}
use Rattle.std.proofs.lemmas.Option.{get_or_from_slice_get}
use Rattle.grid_geom.specs.Bounds.{IsOnGrid}
use Rattle.rule_reader.specs.declared.rule.Rule.{Rule}
use Rattle.rule_reader.specs.Normal.{IsRule}
use Rattle.rule_maps.specs.Frame.{LocalFrame, IsInRange}
use Rattle.rule_maps.specs.Places.{Mapping, mapping}
use Rattle.state_law.specs.State.{State, IsListed, corners_of}
use Rattle.state_law.proofs.Lists.{all_map}
use Rattle.front_chain.specs.Front.{IsFrontState}
use Rattle.rule_match.specs.declared.application.Application.{Application}
use Rattle.rule_match.specs.declared.found.Found.{Found}
use Rattle.rule_match.specs.Candidate.{Attempt, IsCandidate, IsFrontPoint, made, made_of, nth}
use Rattle.rule_match.specs.Candidate as candidate
use Rattle.rule_match.specs.Applied.{application, numbers_from}
use Rattle.rule_match.specs.Least.{rank}
use Rattle.rule_match.specs.Base.{BaseLine}
use Rattle.rule_match.specs.Passed.{IsOn, state_at}
use Rattle.rule_match.proofs.Surroundings.{any_fact}

-- front points are listed
pub point_listed : (st : State) (n : ℕ) → AllByRecursion (λ line. IsListed (length st.points) line.1 × IsListed (length st.points) line.2) st.front → IsFrontPoint st n → IsListed (length st.points) n
point_listed st n joined f =
    let both = any_fact (λ (line : ℕ × ℕ × ℕ). IsListed (length st.points) line.1 × IsListed (length st.points) line.2) (λ (line : ℕ × ℕ × ℕ). (line.1 ≡ n) ⊎ (line.2 ≡ n)) st.front joined f in
    by both.0 both.1 both.2
  where
    by : (line : ℕ × ℕ × ℕ) → IsListed (length st.points) line.1 × IsListed (length st.points) line.2 → (line.1 ≡ n) ⊎ (line.2 ≡ n) → IsListed (length st.points) n
    by line l (inl e) = subst (IsListed (length st.points)) e l.0
    by line l (inr e) = subst (IsListed (length st.points)) e l.1

-- what is found, part by part
pub record HasParts (b : BaseLine) (found : Found) (rule : Rule) (t : Attempt) : Type 0 where
  pub number : found.rule ≡ t.rule
  pub points : found.points ≡ t.points
  pub text : rule ≡ t.text
  pub mapped : mapping b.frame rule (corners_of b.front.points found.points) ≡ candidate.mapping (state_at b) t

pub parts_of : (b : BaseLine) (rules : List Rule) (found : Found) (rule : Rule) (t : Attempt) → IsOn b rules t → found ≡ rank (state_at b) t → ((d : Rule) → slice_index_or rules (found.rule - 1) d ≡ rule) → HasParts b found rule t
parts_of b rules found rule t on same is =
    let number : found.rule ≡ t.rule = ap (λ (f : Found). f.rule) same in
    let points : found.points ≡ t.points = ap (λ (f : Found). f.points) same in
    let text : rule ≡ t.text = sym (is t.text) ∙ ap (λ (n : ℕ). slice_index_or rules (n - 1) t.text) number ∙ get_or_from_slice_get rules (t.rule - 1) t.text t.text on.is_rule in
    record {
      number = number;
      points = points;
      text = text;
      mapped = λ i. mapping (sym on.frame i) (text i) (corners_of b.front.points (points i));
    }

pub few_points : (b : BaseLine) (found : Found) (rule : Rule) (t : Attempt) → HasParts b found rule t → IsRule rule → IsCandidate (state_at b) t → length found.points ≤ 16
few_points b found rule t parts is c = omega (arith, ap length parts.points, c.counted, ap (λ (r : Rule). length r.points) parts.text, is.points.0)

pub points_listed : (b : BaseLine) (found : Found) (rule : Rule) (t : Attempt) → HasParts b found rule t → IsFrontState b.front → IsCandidate (state_at b) t → AllByRecursion (IsListed (length b.front.points)) found.points
points_listed b found rule t parts front c =
    subst (AllByRecursion (IsListed (length b.front.points))) (sym parts.points)
    (all_map (IsFrontPoint (state_at b)) (IsListed (length b.front.points)) (λ n. point_listed (state_at b) n front.numbered.lines_listed) t.points c.on_front)

pub as_many : (b : BaseLine) (found : Found) (rule : Rule) (t : Attempt) → HasParts b found rule t → IsCandidate (state_at b) t → length (corners_of b.front.points found.points) ≡ length rule.points
as_many b found rule t parts c = length-map found.points _ ∙ ap length parts.points ∙ c.counted ∙ sym (ap (λ (r : Rule). length r.points) parts.text)

pub points_in_range : (b : BaseLine) (rules : List Rule) (found : Found) (rule : Rule) (t : Attempt) → HasParts b found rule t → IsOn b rules t → IsCandidate (state_at b) t → All (IsInRange b.frame) (corners_of b.front.points found.points)
points_in_range b rules found rule t parts on c =
    subst (λ (ns : List ℕ). All (IsInRange b.frame) (corners_of b.front.points ns)) (sym parts.points)
    (subst (λ (f : LocalFrame). All (IsInRange f) (corners_of b.front.points t.points)) on.frame (All-from_recursion (IsInRange t.frame) (corners_of b.front.points t.points) c.in_range))

pub some_made : {X : Type 0} (b : BaseLine) (found : Found) (rule : Rule) (t : Attempt) (o : Option X) → HasParts b found rule t → IsCandidate (state_at b) t → IfNone o (¬ (All IsOnGrid (made_of (mapping b.frame rule (corners_of b.front.points found.points))))) → IsSome o
some_made b found rule t (Some x) parts c off = refl
some_made b found rule t None parts c off =
    absurd (off (subst (λ (m : Mapping). All IsOnGrid (made_of m)) (sym parts.mapped) (All-from_recursion IsOnGrid (made (state_at b) t) c.made_on_grid)))

-- the parts of the application
pub record HasApplied (b : BaseLine) (found : Found) (rule : Rule) (a : Application) : Type 0 where
  pub class : a.class ≡ b.class
  pub line : a.line ≡ b.line.0
  pub rule_number : a.rule ≡ found.rule
  pub points : a.points ≡ found.points
  pub made : a.made ≡ made_of (mapping b.frame rule (corners_of b.front.points found.points))
  pub elements : a.elements ≡ map (map (nth (found.points ++ numbers_from (length b.front.points) a.made))) rule.elements

pub application_is : (b : BaseLine) (rules : List Rule) (found : Found) (rule : Rule) (t : Attempt) (a : Application) → HasParts b found rule t → IsOn b rules t → HasApplied b found rule a → a ≡ application (state_at b) t
application_is b rules found rule t a parts on h =
    let made_is : a.made ≡ made (state_at b) t = h.made ∙ ap made_of parts.mapped in
    let elements_are : a.elements ≡ map (map (nth (t.points ++ numbers_from (length b.front.points) (made (state_at b) t)))) t.text.elements =
    h.elements ∙ (λ i. map (map (nth (parts.points i ++ numbers_from (length b.front.points) (made_is i)))) (parts.text i).elements) in
    λ i. record {
      class = (h.class ∙ sym on.class) i;
      line = (h.line ∙ sym (ap (λ (l : ℕ × ℕ × ℕ). l.0) on.line)) i;
      rule = (h.rule_number ∙ parts.number) i;
      points = (h.points ∙ parts.points) i;
      made = made_is i;
      elements = elements_are i;
    }
