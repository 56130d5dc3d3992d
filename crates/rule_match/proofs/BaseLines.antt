-- A front line's frame, and its near points.
use Prim.Native.Nat.{ℕ, ◌<◌}
use lib.IntN.{ℤ}
use mathlib.Core.Path.{◌≡◌, sym, ap, ◌∙◌, subst}
use mathlib.Core.List.{List}
use Rattle.std.specs.Prelude.{length, Some}
use Rattle.std.specs.List.{All, Contains}
use Rattle.std.proofs.lemmas.List.{get_or-map, length-map}
use Rattle.std.proofs.lemmas.List.Elements.{All-from_recursion, All-from_get_or, recursion_from_All, All-contains_itself}
use Rattle.grid_geom.specs.declared.Point.{Point}
use Rattle.grid_geom.specs.Bounds.{IsOnGrid}
use Rattle.grid_geom.specs.Closed.{IsEdge}
use Rattle.rule_maps.specs.Frame.{LocalFrame, IsFrameOf}
use Rattle.state_law.specs.State.{State, point_at, pair_edge, front_edges, IsListed}
use Rattle.size_field.specs.Size.{SizeField, size_at}
use Rattle.front_chain.specs.Front.{FrontState, IsFrontState, state_of, line_at}
use Rattle.free_zone.proofs.AtNumbers.{at_number}
use Rattle.rule_match.specs.declared.around.Scope.{Scope}
use Rattle.rule_match.specs.declared.near.NearPoint.{NearPoint}
use Rattle.rule_match.specs.Candidate.{IsFrontPair}
use Rattle.rule_match.specs.Trying.{nowhere}
use Rattle.rule_match.specs.Around.{IsSurrounding}
use Rattle.rule_match.specs.Base.{IsFramed}
use Rattle.rule_match.proofs.Surroundings.{any_fact}

-- the ends of a front line are listed, and at different places
pub pair_listed : (f : FrontState) (a b : ℕ) → IsFrontState f → IsFrontPair (state_of f) (a, b) → IsListed (length f.points) a × IsListed (length f.points) b
pair_listed f a b s p =
    let e : (l : ℕ × ℕ × ℕ) × (IsListed (length f.points) l.1 × IsListed (length f.points) l.2) × ((l.1 ≡ a) × (l.2 ≡ b)) = any_fact (λ l. IsListed (length f.points) l.1 × IsListed (length f.points) l.2) (λ l. (l.1 ≡ a) × (l.2 ≡ b)) f.lines s.numbered.lines_listed p in
    (subst (IsListed (length f.points)) e.2.0 e.1.0, subst (IsListed (length f.points)) e.2.1 e.1.1)

pub pair_apart : (f : FrontState) (a b : ℕ) → IsFrontState f → IsFrontPair (state_of f) (a, b) → ¬ (point_at f.points a ≡ point_at f.points b)
pair_apart f a b s p e =
    let edge : IsEdge (pair_edge f.points (p.1.1, p.1.2)) = subst IsEdge (get_or-map (λ (line : ℕ × ℕ × ℕ). pair_edge f.points (line.1, line.2)) f.lines p.0 p.1 (pair_edge f.points (p.1.1, p.1.2)) p.2 ∙ ap (λ (line : ℕ × ℕ × ℕ). pair_edge f.points (line.1, line.2)) p.3)
    (All-from_recursion IsEdge (front_edges f.points f.lines) s.region.edges p.0 (pair_edge f.points (p.1.1, p.1.2)) (subst (λ (n : ℕ). p.0 < n) (sym (length-map f.lines (λ (line : ℕ × ℕ × ℕ). pair_edge f.points (line.1, line.2)))) p.2)) in
    edge (ap (point_at f.points) p.4.0 ∙ e ∙ sym (ap (point_at f.points) p.4.1))

-- the frame at the size at its middle
pub framed : (sizes : SizeField) (points : List Point) (from to : ℕ) (a b m : Point) (size : ℕ) (f : LocalFrame) → a ≡ point_at points from → b ≡ point_at points to → size ≡ size_at sizes m → m.x ≡ f.middle.x → m.y ≡ f.middle.y → IsFrameOf a b size f → IsFramed sizes points from to f
framed sizes points from to a b m size f e g h x y k =
    subst (λ (p : Point). IsFrameOf p (point_at points to) (size_at sizes f.middle) f) e (subst (λ (p : Point). IsFrameOf a p (size_at sizes f.middle) f) g (subst (λ (n : ℕ). IsFrameOf a b n f) (h ∙ ap (size_at sizes) same) k))
  where
    same : m ≡ f.middle
    same = ap (λ (z : ℤ). at z m.y) x ∙ ap (at f.middle.x) y
      where
        at : ℤ → ℤ → Point
        at u v = record { x = u; y = v }

-- near points are grid points
pub near_on : (st : State) (f : LocalFrame) (scope : Scope) (near : List NearPoint) (lines : List (ℕ × ℕ)) → IsSurrounding st f scope near lines → All (λ n. IsOnGrid n.at) near
near_on st f scope near lines s = All-from_get_or (λ n. IsOnGrid n.at) near nowhere (λ k h. (s.in_range k h).on)

-- a line with its number is of the list
pub line_there : (lines : List (ℕ × ℕ × ℕ)) (n : ℕ) (ends : ℕ × ℕ) → line_at lines n ≡ Some ends → Contains lines (n, ends.0, ends.1)
line_there lines n ends e = at_number (Contains lines) lines n ends (recursion_from_All (Contains lines) lines (All-contains_itself lines)) e
