-- What is kept of a state goes on through a gluing, and holds at the beginning.
use Prim.Native.Nat.{ℕ, ◌+◌, ◌-◌, ◌*◌, ◌≤◌, ◌<◌, ◌^◌}
use lib.IntN.{ℤ, pos, negsuc, ◌+ℤ◌, ◌-ℤ◌}
use lib.Signed.{◌<ℤ◌, ◌≤ℤ◌}
use lib.ListN.{length}
use mathlib.Core.Path.{◌≡◌, refl, sym, ap, ◌∙◌, subst}
use mathlib.Core.Bool.{Bool, true, false, cond}
use mathlib.Core.List.{List, [], ◌∷◌, ◌++◌, map}
use native.Mathlib.Omega.{arith}
use mir.Val.{SFits}
use mir.Syntax.{w128}
use Rattle.std.proofs.lemmas.Int.{ints}
use Rattle.std.proofs.lemmas.List.{get_or_append_left, length-append}
use Rattle.std.proofs.lemmas.List.Elements.{All-append, All-same, All-cons, All-nil, All-get_or, All-from_recursion, All-filter, All-map}
use Rattle.std.specs.Prelude.{filter}
use Rattle.std.specs.List.{All, AllByRecursion, IsDistinct}
use Rattle.grid_geom.specs.declared.Point.{Point}
use Rattle.grid_geom.specs.declared.Edge.{Edge}
use Rattle.grid_geom.specs.declared.Bounds.{Bounds}
use Rattle.grid_geom.specs.Bounds.{IsOnGrid}
use Rattle.grid_geom.specs.Area.{shoelace}
use Rattle.grid_geom.specs.Polygon.{sides}
use Rattle.grid_geom.specs.Winding.{wind}
use Rattle.grid_geom.specs.Closed.{same_point, IsEdge}
use Rattle.wind_law.specs.Chains.{edge}
use Rattle.wind_law.specs.Grid.{IsEdgeOnGrid, AreOnGrid}
use Rattle.wind_law.proofs.Additive.{wind_append}
use Rattle.state_law.specs.Gluing.{glue, MayBeGlued}
use Rattle.state_law.specs.Region.{IsRegion}
use Rattle.state_law.specs.State.{State, point_at, pair_edge, front_edges, corners_of, glued, IsListed}
use Rattle.state_law.proofs.Glued.{glued_wind, glued_area, glued_falls, convex_area}
use Rattle.state_law.proofs.Region.{region_on}
use Rattle.state_law.proofs.Numbers.{glued_edges, glued_numbered}
use Rattle.state_law.proofs.LineNumbers.{glued_next}
use Rattle.front_chain.specs.Front.{FrontState, IsFrontState, or_zero, edges_of, does_meet}
use Rattle.admission.specs.declared.triangle.Triangle.{Triangle}
use Rattle.admission.specs.declared.shapes.Shape.{Shape}
use Rattle.admission.specs.declared.view.View.{View}
use Rattle.admission.specs.Triangles.{corners_of_triangle, IsTriangleOnGrid, IsLineOnGrid}
use Rattle.admission.specs.Around.{IsShapeIn, IsShapeOf, AreListed, shape_at, drawn, is_close, lines_near, glue_shape, next_shape}
use Rattle.admission.specs.Admission.{entered, edges_at}
use Rattle.admission.specs.Kept.{IsViewOf, IsViewAfter}
use Rattle.admission.proofs.Gluing.{glued_shape, placed_of, near_sides}

-- ---- the shape of an element
three_items : (ns : List ℕ) (P : List ℕ → Type 0) → length ns ≡ 3 → ((i j k : ℕ) → P (i ∷ j ∷ k ∷ [])) → P ns
three_items [] P e h = absurd (omega (arith, e))
three_items (i ∷ []) P e h = absurd (omega (arith, e))
three_items (i ∷ j ∷ []) P e h = absurd (omega (arith, e))
three_items (i ∷ j ∷ k ∷ []) P e h = h i j k
three_items (i ∷ j ∷ k ∷ m ∷ ns) P e h = absurd (omega (arith, e))

pub shape_is : (points : List Point) (ns : List ℕ) → length ns ≡ 3 → IsTriangleOnGrid (shape_at points ns).t → IsShapeOf points ns (shape_at points ns)
shape_is points ns e h = record {
  numbers = three_items ns (λ k. k ≡ (shape_at points k).i ∷ (shape_at points k).j ∷ (shape_at points k).k ∷ []) e (λ i j k. refl);
  places = three_items ns (λ k. corners_of points k ≡ corners_of_triangle (shape_at points k).t) e (λ i j k. refl);
  on_grid = h;
}

-- ---- the lines of a view are on the grid
inside : (n m : ℕ) → 1 ≤ n → n ≤ m → n - 1 < m
inside n m l k = omega arith

lines_on : (points : List Point) (front : List (ℕ × ℕ × ℕ)) → All IsOnGrid points → AllByRecursion (λ line. IsListed (length points) line.1 × IsListed (length points) line.2) front → AllByRecursion IsEdge (front_edges points front) →
    AllByRecursion (λ line. IsLineOnGrid (drawn points line)) front
lines_on points [] g l e = tt
lines_on points (line ∷ front) g l e = (
  record {
    a = All-get_or IsOnGrid points (line.1 - 1) (record { x = pos 0; y = pos 0 }) (inside line.1 (length points) l.0.0.0 l.0.0.1) g;
    b = All-get_or IsOnGrid points (line.2 - 1) (record { x = pos 0; y = pos 0 }) (inside line.2 (length points) l.0.1.0 l.0.1.1) g;
    different = e.0;
  },
  lines_on points front g l.1 e.1,
)

pub view_lines_on : (f : FrontState) (b : Bounds) (st : State) (view : View) → IsViewOf f b st view → All IsLineOnGrid view.lines.items
view_lines_on f b st view v = All-same IsLineOnGrid view.lines.items (lines_near b st.points st.front) v.lines
    (All-map IsLineOnGrid (drawn st.points) (filter (is_close b st.points) st.front) (All-filter (is_close b st.points) (λ line. IsLineOnGrid (drawn st.points line)) st.front
    (All-from_recursion (λ line. IsLineOnGrid (drawn st.points line)) st.front (lines_on st.points st.front v.on_grid v.numbered.lines_listed v.region.edges))))

-- ---- an element glued
-- with n lines' numbers more at most, and an area that falls by at least 1, the bound is kept
bound_on : (n m : ℕ) (before after element : ℤ) → before ≡ element +ℤ after → after <ℤ before → element ≤ℤ before → m ≤ n + 3 → n + 4 * or_zero before ≤ 2 ^ 64 - 1 → m + 4 * or_zero after ≤ 2 ^ 64 - 1
bound_on n m (pos a) (pos b) element e l k h i = omega (arith, ints, l, h, i)
bound_on n m (pos a) (negsuc b) element e l k h i = absurd (omega (arith, ints, e, k))
bound_on n m (negsuc a) after element e l k h i = absurd (omega (arith, ints, e, l, k))

pub room_on : (n : ℕ) (before after element : ℤ) → before ≡ element +ℤ after → after <ℤ before → element ≤ℤ before → n + 4 * or_zero before ≤ 2 ^ 64 - 1 → n + 3 < 2 ^ 64
room_on n (pos a) after element e l k i = omega (arith, ints, e, l, k, i)
room_on n (negsuc a) after element e l k i = absurd (omega (arith, ints, e, l, k))

less_fits : (a b : ℤ) → SFits w128 a → pos 0 ≤ℤ b → b ≤ℤ a → SFits w128 (a -ℤ b)
less_fits a b f l g = let h = f.sfits in omega (arith, ints, h, l, g)

left_after : (before after element : ℤ) → before ≡ element +ℤ after → before -ℤ element ≡ after
left_after before after element e = omega (arith, ints, e)

pub positive : (a : ℤ) → pos 0 <ℤ a → pos 0 ≤ℤ a
positive a h = omega (arith, ints, h)

taken_more : (w x y z u : ℤ) → w ≡ x +ℤ y → y ≡ u +ℤ z → w ≡ (x +ℤ u) +ℤ z
taken_more w x y z u e f = omega (arith, ints, e, f)

side_on : (a b : Point) → IsOnGrid a → IsOnGrid b → IsEdgeOnGrid (edge a b)
side_on a b h k = record { a = h; b = k }

sides_on : (t : Triangle) → IsTriangleOnGrid t → AreOnGrid (sides (corners_of_triangle t))
sides_on t h = All-cons IsEdgeOnGrid (edge t.a t.b) (edge t.b t.c ∷ edge t.c t.a ∷ []) (side_on t.a t.b h.a h.b)
    (All-cons IsEdgeOnGrid (edge t.b t.c) (edge t.c t.a ∷ []) (side_on t.b t.c h.b h.c) (All-cons IsEdgeOnGrid (edge t.c t.a) [] (side_on t.c t.a h.c h.a) (All-nil IsEdgeOnGrid)))

-- the view of the state after an element is glued
pub view_on : (f : FrontState) (b : Bounds) (st : State) (old new : View) (s : Shape) (ns : List ℕ) → IsViewOf f b st old → IsShapeOf st.points ns s → IsShapeIn b s → AreListed (length st.points) ns → MayBeGlued (corners_of_triangle s.t) (edges_at st) → IsViewAfter old s new → IsViewOf f b (glued st ns) new
view_on f b st old new s ns v h i l m a = record {
  numbered = let n = glued_numbered st ns v.numbered l in record { different = n.different; lines_listed = n.lines_listed };
  on_grid = v.on_grid;
  region = subst IsRegion (sym after) (region_on (edges_at st) cs v.region m);
  lines = a.lines ∙ near.0 ∙ ap (λ (k : List ℕ). lines_near b st.points (glued st k).front) (sym h.numbers);
  next = a.next ∙ near.1 ∙ ap (λ (k : List ℕ). (glued st k).next) (sym h.numbers);
  left = a.left ∙ ap (λ (z : ℤ). z -ℤ shoelace (sides cs)) v.left ∙ left_after (shoelace (edges_at st)) (shoelace (glue (edges_at st) cs)) (shoelace (sides cs)) (glued_area (edges_at st) (sides cs)) ∙ ap shoelace (sym after);
  fits = subst (SFits w128) (sym a.left) (less_fits old.left (shoelace (sides cs)) v.fits (positive (shoelace (sides cs)) (convex_area cs m.turned)) (subst (λ (z : ℤ). shoelace (sides cs) ≤ℤ z) (sym v.left) m.covered));
  taken_on = All-same IsEdgeOnGrid new.taken.items (old.taken.items ++ sides cs) a.taken (All-append IsEdgeOnGrid old.taken.items (sides cs) v.taken_on (sides_on s.t h.on_grid));
  winding = λ q. subst (λ (es : List Edge). wind q (edges_of f) ≡ wind q es +ℤ wind q (edges_at (glued st ns))) (sym a.taken) (subst (λ (z : ℤ). wind q (edges_of f) ≡ z +ℤ wind q (edges_at (glued st ns))) (sym (wind_append q old.taken.items (sides cs)))
      (subst (λ (es : List Edge). wind q (edges_of f) ≡ (wind q old.taken.items +ℤ wind q (sides cs)) +ℤ wind q es) (sym after)
      (taken_more (wind q (edges_of f)) (wind q old.taken.items) (wind q (edges_at st)) (wind q (glue (edges_at st) cs)) (wind q (sides cs)) (v.winding q) (glued_wind q (edges_at st) (sides cs)))));
  bounded = subst (λ (es : List Edge). (glued st ns).next + 4 * or_zero (shoelace es) ≤ 2 ^ 64 - 1) (sym after)
      (bound_on st.next (glued st ns).next (shoelace (edges_at st)) (shoelace (glue (edges_at st) cs)) (shoelace (sides cs)) (glued_area (edges_at st) (sides cs)) (glued_falls (edges_at st) cs m.turned) m.covered
      (subst (λ (c : ℕ). (glued st ns).next ≤ st.next + c) three (glued_next st ns)) v.bounded);
}
  where
    cs : List Point
    cs = corners_of_triangle s.t

    after : edges_at (glued st ns) ≡ glue (edges_at st) cs
    after = glued_edges st ns v.numbered l ∙ ap (glue (edges_at st)) h.places

    near : (glue_shape old.lines.items old.next s ≡ lines_near b st.points (glued st (s.i ∷ s.j ∷ s.k ∷ [])).front) × (next_shape old.lines.items old.next s ≡ (glued st (s.i ∷ s.j ∷ s.k ∷ [])).next)
    near = glued_shape b st old.lines.items old.next s (placed_of st.points ns s h) (near_sides b st.points s (placed_of st.points ns s h) i) v.lines v.next

    three : length ns ≡ 3
    three = ap length h.numbers

-- room for the numbers of the lines that may join
pub view_room : (f : FrontState) (b : Bounds) (st : State) (view : View) (cs : List Point) → IsViewOf f b st view → MayBeGlued cs (edges_at st) → view.next + 3 < 2 ^ 64
view_room f b st view cs v m = subst (λ (n : ℕ). n + 3 < 2 ^ 64) (sym v.next) (room_on st.next (shoelace (edges_at st)) (shoelace (glue (edges_at st) cs)) (shoelace (sides cs)) (glued_area (edges_at st) (sides cs)) (glued_falls (edges_at st) cs m.turned) m.covered v.bounded)

-- ---- at the beginning
point_old : (points more : List Point) (n : ℕ) → IsListed (length points) n → point_at (points ++ more) n ≡ point_at points n
point_old points more n l = get_or_append_left points more (record { x = pos 0; y = pos 0 }) (n - 1) (inside n (length points) l.0 l.1)

abbrev LinesListed : ℕ → List (ℕ × ℕ × ℕ) → Type 0
LinesListed n front = AllByRecursion (λ line. IsListed n line.1 × IsListed n line.2) front

edges_old : (points more : List Point) (front : List (ℕ × ℕ × ℕ)) → LinesListed (length points) front → front_edges (points ++ more) front ≡ front_edges points front
edges_old points more [] h = refl
edges_old points more (line ∷ front) h = λ i. edge (point_old points more line.1 h.0.0 i) (point_old points more line.2 h.0.1 i) ∷ edges_old points more front h.1 i

near_old : (b : Bounds) (points more : List Point) (front : List (ℕ × ℕ × ℕ)) → LinesListed (length points) front → lines_near b (points ++ more) front ≡ lines_near b points front
near_old b points more [] h = refl
near_old b points more (line ∷ front) h =
    ap (λ (e : Edge). map (drawn (points ++ more)) (cond (does_meet b e) (line ∷ filter (is_close b (points ++ more)) front) (filter (is_close b (points ++ more)) front))) here
    ∙ (elim (is_close b points line) as (λ (k : Bool). map (drawn (points ++ more)) (cond k (line ∷ filter (is_close b (points ++ more)) front) (filter (is_close b (points ++ more)) front)) ≡ map (drawn points) (cond k (line ∷ filter (is_close b points) front) (filter (is_close b points) front))) [
      | true ↦ λ i. record { number = line.0; from = line.1; to = line.2; a = point_old points more line.1 h.0.0 i; b = point_old points more line.2 h.0.1 i } ∷ near_old b points more front h.1 i
      | false ↦ near_old b points more front h.1
    ])
  where
    here : pair_edge (points ++ more) (line.1, line.2) ≡ pair_edge points (line.1, line.2)
    here = λ i. edge (point_old points more line.1 h.0.0 i) (point_old points more line.2 h.0.1 i)

still_listed : (points more : List Point) (front : List (ℕ × ℕ × ℕ)) → LinesListed (length points) front → LinesListed (length (points ++ more)) front
still_listed points more [] h = tt
still_listed points more (line ∷ front) h = ((further line.1 h.0.0, further line.2 h.0.1), still_listed points more front h.1)
  where
    up : (k n m : ℕ) → k ≤ n → k ≤ n + m
    up k n m h = omega arith

    further : (k : ℕ) → IsListed (length points) k → IsListed (length (points ++ more)) k
    further k l = (l.0, subst (λ (n : ℕ). k ≤ n) (sym (length-append points more)) (up k (length points) (length more) l.1))

pub view_begins : (f : FrontState) (made : List Point) (b : Bounds) (view : View) → IsFrontState f → All IsOnGrid made → IsDistinct same_point (f.points ++ made) → view.lines.items ≡ lines_near b f.points f.lines → view.next ≡ f.next → view.left ≡ shoelace (edges_of f) → SFits w128 view.left → view.taken.items ≡ [] → IsViewOf f b (entered f made) view
view_begins f made b view h g d e n a t k = record {
  numbered = record { different = d; lines_listed = still_listed f.points made f.lines h.numbered.lines_listed };
  on_grid = All-append IsOnGrid f.points made h.on_grid g;
  region = subst IsRegion (sym same) h.region;
  lines = e ∙ sym (near_old b f.points made f.lines h.numbered.lines_listed);
  next = n;
  left = a ∙ ap shoelace (sym same);
  fits = t;
  taken_on = All-same IsEdgeOnGrid view.taken.items [] k (All-nil IsEdgeOnGrid);
  winding = λ q. subst (λ (es : List Edge). wind q (edges_of f) ≡ wind q es +ℤ wind q (edges_at (entered f made))) (sym k) (ap (wind q) (sym same) ∙ none (wind q (edges_at (entered f made))));
  bounded = subst (λ (es : List Edge). f.next + 4 * or_zero (shoelace es) ≤ 2 ^ 64 - 1) (sym same) h.bounded;
}
  where
    same : edges_at (entered f made) ≡ edges_of f
    same = edges_old f.points made f.lines h.numbered.lines_listed

    none : (z : ℤ) → z ≡ pos 0 +ℤ z
    none z = omega (arith, ints)
