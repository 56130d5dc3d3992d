-- What is true of every front, kept: at the opening, when a point is listed, when an element is glued. Stands on state_law's Numbers, LineNumbers, Region, Settled and Glued.
use Prim.Native.Nat.{ℕ, zero, suc, ◌+◌, ◌-◌, ◌*◌, ◌^◌, ◌≤◌, ◌<◌}
use lib.IntN.{ℤ, pos, negsuc, ◌+ℤ◌, ◌-ℤ◌}
use lib.Signed.{◌<ℤ◌, ◌≤ℤ◌}
use lib.ListN.{length, get_or, set, take}
use mathlib.Core.Path.{◌≡◌, refl, sym, ap, ◌∙◌, subst}
use mathlib.Core.Bool.{Bool, true, false, cond, not, ◌||◌}
use mathlib.Core.List.{List, [], ◌∷◌, ◌++◌, map}
use mathlib.Core.Logic.{◌⊎◌, inl, inr}
use mir.Val.{SFits}
use mir.Syntax.{w128}
use native.Mathlib.Omega.{arith}
use Rattle.std.proofs.lemmas.Int.{ints}
use Rattle.std.proofs.lemmas.List.{length-append, map-append, take_more}
use Rattle.std.proofs.lemmas.Grind.{take-set_at}
use Rattle.std.proofs.lemmas.List.Elements.{All-push, All-from_recursion, All-get_or, Contains-append_left, Contains-append_right}
use Rattle.std.specs.Prelude.{nat_eq, filter, None}
use Rattle.std.specs.List.{All, AllByRecursion, Contains, list_any}
use Rattle.grid_geom.specs.declared.Point.{Point}
use Rattle.grid_geom.specs.declared.Edge.{Edge}
use Rattle.grid_geom.specs.Bounds.{IsOnGrid}
use Rattle.grid_geom.specs.Area.{shoelace}
use Rattle.grid_geom.specs.Polygon.{sides}
use Rattle.wind_law.specs.Chains.{edge}
use Rattle.state_law.specs.Gluing.{glue}
use Rattle.state_law.specs.Saved.{IsCorner, IsFrontPoint}
use Rattle.state_law.specs.Region.{IsRegion, IsSettled}
use Rattle.state_law.specs.State.{point_at, pair_edge, front_edges, corners_of, glued, IsListed, AreRising}
use Rattle.state_law.proofs.Glued.{glued_area, glued_falls}
use Rattle.state_law.proofs.Numbers.{glued_edges, glued_numbered}
use Rattle.state_law.proofs.LineNumbers.{glued_rising, glued_next}
use Rattle.state_law.proofs.Region.{region_on}
use Rattle.state_law.proofs.Settled.{place_on}
use Rattle.front_chain.specs.Front.{FrontState, IsFrontState, IsOpening, IsGluable, IsPlaced, IsWalk, edges_of, state_of, number_of, or_zero, numbered_from, numbers_to, idle_points, still_waiting}
use Rattle.front_chain.proofs.Ends.{leaves_front}
use Rattle.front_chain.proofs.Places.{distinct_push, point_old}

-- what is true of a front is true of each value with the same points, lines, next number, walk and waiting points
pub front_as : (f g : FrontState) → f.points ≡ g.points → f.lines ≡ g.lines → f.next ≡ g.next → f.walk ≡ g.walk → f.waiting ≡ g.waiting → IsFrontState f → IsFrontState g
front_as f g a b c d e h = subst IsFrontState (λ i. record { points = a i; lines = b i; next = c i; walk = d i; waiting = e i; spare_points = g.spare_points; spare_lines = g.spare_lines })
    (record { numbered = h.numbered; on_grid = h.on_grid; positive = h.positive; rising = h.rising; region = h.region; bounded = h.bounded; walked = h.walked; placed = h.placed })

-- a place is a front point, settled, or its number waits
abbrev HasPlace : List Edge → List ℕ → Point → ℕ → Type 0
HasPlace es waiting p n = (IsFrontPoint es p ⊎ IsSettled es p) ⊎ Contains waiting n

-- ---- a point more
pub edges_old : (points : List Point) (p : Point) (lines : List (ℕ × ℕ × ℕ)) → AllByRecursion (λ line. IsListed (length points) line.1 × IsListed (length points) line.2) lines → front_edges (points ++ p ∷ []) lines ≡ front_edges points lines
edges_old points p [] h = refl
edges_old points p (line ∷ lines) h = λ i. edge (point_old points p line.1 h.0.0 i) (point_old points p line.2 h.0.1 i) ∷ edges_old points p lines h.1 i

one_more : (points : List Point) (p : Point) → length (points ++ p ∷ []) ≡ length points + 1
one_more points p = length-append points (p ∷ [])

still_listed : (points : List Point) (p : Point) (lines : List (ℕ × ℕ × ℕ)) → AllByRecursion (λ line. IsListed (length points) line.1 × IsListed (length points) line.2) lines →
    AllByRecursion (λ line. IsListed (length (points ++ p ∷ [])) line.1 × IsListed (length (points ++ p ∷ [])) line.2) lines
still_listed points p [] h = tt
still_listed points p (line ∷ lines) h = ((more line.1 h.0.0, more line.2 h.0.1), still_listed points p lines h.1)
  where
    next : (k n : ℕ) → k ≤ n → k ≤ n + 1
    next k n h = omega arith

    more : (k : ℕ) → IsListed (length points) k → IsListed (length (points ++ p ∷ [])) k
    more k l = (l.0, subst (λ (n : ℕ). k ≤ n) (sym (one_more points p)) (next k (length points) l.1))

pub front_listed : (f : FrontState) (p : Point) → IsFrontState f → IsOnGrid p → number_of f.points p ≡ None → IsFrontState (record f { points = f.points ++ p ∷ []; waiting = f.waiting ++ (length f.points + 1) ∷ [] })
front_listed f p h on new = record {
  numbered = record { different = distinct_push f.points p h.numbered.different new; lines_listed = still_listed f.points p f.lines h.numbered.lines_listed };
  on_grid = All-push IsOnGrid f.points p h.on_grid on;
  positive = h.positive;
  rising = h.rising;
  region = subst IsRegion (sym same) h.region;
  bounded = subst (λ (es : List Edge). f.next + 4 * or_zero (shoelace es) ≤ 2 ^ 64 - 1) (sym same) h.bounded;
  walked = h.walked;
  placed = λ n l. by n (compared n (length f.points) l.0 (subst (λ (m : ℕ). n ≤ m) (one_more f.points p) l.1));
}
  where
    same : front_edges (f.points ++ p ∷ []) f.lines ≡ edges_of f
    same = edges_old f.points p f.lines h.numbered.lines_listed

    compared : (n m : ℕ) → 1 ≤ n → n ≤ m + 1 → IsListed m n ⊎ (m + 1 ≡ n)
    compared n m l k = grind arith

    old : (n : ℕ) → IsListed (length f.points) n → IsPlaced f n → HasPlace (front_edges (f.points ++ p ∷ []) f.lines) (f.waiting ++ (length f.points + 1) ∷ []) (point_at (f.points ++ p ∷ []) n) n
    old n l (inl k) = inl (subst (λ (es : List Edge). IsFrontPoint es (point_at (f.points ++ p ∷ []) n) ⊎ IsSettled es (point_at (f.points ++ p ∷ []) n)) (sym same)
        (subst (λ (q : Point). IsFrontPoint (edges_of f) q ⊎ IsSettled (edges_of f) q) (sym (point_old f.points p n l)) k))
    old n l (inr k) = inr (Contains-append_left f.waiting ((length f.points + 1) ∷ []) n k)

    by : (n : ℕ) → IsListed (length f.points) n ⊎ (length f.points + 1 ≡ n) → HasPlace (front_edges (f.points ++ p ∷ []) f.lines) (f.waiting ++ (length f.points + 1) ∷ []) (point_at (f.points ++ p ∷ []) n) n
    by n (inl l) = old n l (h.placed n l)
    by n (inr e) = inr (Contains-append_right f.waiting ((length f.points + 1) ∷ []) n (0, omega arith, e))

-- ---- an element glued
keep : (test : ℕ → Bool) (xs : List ℕ) (n : ℕ) → test n ≡ true → Contains xs n → Contains (filter test xs) n
keep test [] n t (k, l, e) = absurd (omega (arith, l))
keep test (x ∷ xs) n t (zero, l, e) = by (test x) refl
  where
    clash : {A : Type 0} → true ≡ false → A
    clash h = absurd (cc)

    by : (b : Bool) → test x ≡ b → Contains (cond b (x ∷ filter test xs) (filter test xs)) n
    by true f = (zero, positive (length (filter test xs)), e)
      where
        positive : (m : ℕ) → 0 < suc m
        positive m = omega arith
    by false f = clash (sym t ∙ ap test (sym e) ∙ f)
keep test (x ∷ xs) n t (suc k, l, e) = by (test x) (keep test xs n t (k, omega (arith, l), e))
  where
    by : (b : Bool) → Contains (filter test xs) n → Contains (cond b (x ∷ filter test xs) (filter test xs)) n
    by true r = (suc r.0, more r.0 (length (filter test xs)) r.1, r.2)
      where
        more : (j m : ℕ) → j < m → suc j < suc m
        more j m h = omega arith
    by false r = r

-- a number of the element is that of a corner
corner_of : (points : List Point) (ns : List ℕ) (n : ℕ) → list_any (nat_eq n) ns ≡ true → IsCorner (point_at points n) (corners_of points ns)
corner_of points [] n e = absurd (cc)
corner_of points (m ∷ ns) n e = by (nat_eq n m) refl e (corner_of points ns n)
  where
    same : (n m : ℕ) → nat_eq n m ≡ true → m ≡ n
    same n m e = grind arith

    by : (b : Bool) → nat_eq n m ≡ b → (b || list_any (nat_eq n) ns) ≡ true → (list_any (nat_eq n) ns ≡ true → IsCorner (point_at points n) (corners_of points ns)) → IsCorner (point_at points n) (corners_of points (m ∷ ns))
    by true f h rest = inl (ap (point_at points) (same n m f))
    by false f h rest = inr (rest h)

-- with n lines' numbers more at most, and an area that falls by at least 1, the bound is kept
bound_on : (n m : ℕ) (before after element : ℤ) → before ≡ element +ℤ after → after <ℤ before → element ≤ℤ before → m ≤ n + 4 → n + 4 * or_zero before ≤ 2 ^ 64 - 1 → m + 4 * or_zero after ≤ 2 ^ 64 - 1
bound_on n m (pos a) (pos b) element e l k h i = omega (arith, ints, l, h, i)
bound_on n m (pos a) (negsuc b) element e l k h i = absurd (omega (arith, ints, e, k))
bound_on n m (negsuc a) after element e l k h i = absurd (omega (arith, ints, e, l, k))

abbrev pub after_glue : FrontState → List ℕ → List ℕ → FrontState
after_glue f ns walk = record f { lines = (glued (state_of f) ns).front; next = (glued (state_of f) ns).next; walk = walk; waiting = still_waiting f.waiting ns }

pub edges_glued : (f : FrontState) (ns : List ℕ) → IsFrontState f → IsGluable f ns → front_edges f.points (glued (state_of f) ns).front ≡ glue (edges_of f) (corners_of f.points ns)
edges_glued f ns h k = glued_edges (state_of f) ns h.numbered k.listed

pub area_glued : (f : FrontState) (ns : List ℕ) → IsFrontState f → IsGluable f ns → shoelace (edges_of f) ≡ shoelace (sides (corners_of f.points ns)) +ℤ shoelace (front_edges f.points (glued (state_of f) ns).front)
area_glued f ns h k = glued_area (edges_of f) (sides (corners_of f.points ns)) ∙ ap (λ (es : List Edge). shoelace (sides (corners_of f.points ns)) +ℤ shoelace es) (sym (edges_glued f ns h k))

pub front_glued : (f : FrontState) (ns walk : List ℕ) → IsFrontState f → IsGluable f ns → IsWalk walk (glued (state_of f) ns).front → AllByRecursion (λ (line : ℕ × ℕ × ℕ). 1 ≤ line.0) (glued (state_of f) ns).front → IsFrontState (after_glue f ns walk)
front_glued f ns walk h k w one = record {
  numbered = let n = glued_numbered (state_of f) ns h.numbered k.listed in record { different = n.different; lines_listed = n.lines_listed };
  on_grid = h.on_grid;
  positive = one;
  rising = glued_rising (state_of f) ns h.rising;
  region = subst IsRegion (sym same) (region_on (edges_of f) (corners_of f.points ns) h.region k.may);
  bounded = bound_on f.next (glued (state_of f) ns).next (shoelace (edges_of f)) (shoelace (front_edges f.points (glued (state_of f) ns).front)) (shoelace (sides (corners_of f.points ns))) (area_glued f ns h k)
      (subst (λ (es : List Edge). shoelace es <ℤ shoelace (edges_of f)) (sym same) (glued_falls (edges_of f) (corners_of f.points ns) k.may.turned)) k.may.covered
      (at_most f.next (glued (state_of f) ns).next (length ns) (glued_next (state_of f) ns) k.few) h.bounded;
  walked = w;
  placed = λ n l. by n (h.placed n l);
}
  where
    same : front_edges f.points (glued (state_of f) ns).front ≡ glue (edges_of f) (corners_of f.points ns)
    same = edges_glued f ns h k

    at_most : (n m c : ℕ) → m ≤ n + c → c ≤ 4 → m ≤ n + 4
    at_most n m c h k = omega arith

    on : (n : ℕ) → (IsFrontPoint (edges_of f) (point_at f.points n) ⊎ IsSettled (edges_of f) (point_at f.points n)) ⊎ IsCorner (point_at f.points n) (corners_of f.points ns) → HasPlace (front_edges f.points (glued (state_of f) ns).front) (still_waiting f.waiting ns) (point_at f.points n) n
    on n c = inl (subst (λ (es : List Edge). IsFrontPoint es (point_at f.points n) ⊎ IsSettled es (point_at f.points n)) (sym same) (place_on (edges_of f) (corners_of f.points ns) (point_at f.points n) h.region k.may c))

    waits : (n : ℕ) (b : Bool) → list_any (nat_eq n) ns ≡ b → Contains f.waiting n → HasPlace (front_edges f.points (glued (state_of f) ns).front) (still_waiting f.waiting ns) (point_at f.points n) n
    waits n true e c = on n (inr (corner_of f.points ns n e))
    waits n false e c = inr (keep (λ n. not (list_any (nat_eq n) ns)) f.waiting n (ap not e) c)

    by : (n : ℕ) → IsPlaced f n → HasPlace (front_edges f.points (glued (state_of f) ns).front) (still_waiting f.waiting ns) (point_at f.points n) n
    by n (inl c) = on n (inl c)
    by n (inr c) = waits n (list_any (nat_eq n) ns) refl c

-- the area and what is left of it
fits_left : (n : ℕ) (before after element : ℤ) → before ≡ element +ℤ after → after <ℤ before → element ≤ℤ before → n + 4 * or_zero before ≤ 2 ^ 64 - 1 → SFits w128 before × SFits w128 after
fits_left n (pos a) (pos b) element e l k h = (record { sfits = below a n h }, record { sfits = less a b n l h })
  where
    below : (a n : ℕ) → n + 4 * a ≤ 2 ^ 64 - 1 → a < 2 ^ 127
    below a n h = omega (arith, h)

    less : (a b n : ℕ) → pos b <ℤ pos a → n + 4 * a ≤ 2 ^ 64 - 1 → b < 2 ^ 127
    less a b n l h = omega (arith, ints, l, h)
fits_left n (pos a) (negsuc b) element e l k h = absurd (omega (arith, ints, e, k))
fits_left n (negsuc a) after element e l k h = absurd (omega (arith, ints, e, l, k))

-- what is left after the element, as the code subtracts it
pub record LeavesArea (f : FrontState) (ns : List ℕ) (area taken : ℤ) : Type 0 where
  pub left : area -ℤ taken ≡ shoelace (front_edges f.points (glued (state_of f) ns).front)
  pub fits : SFits w128 area
  pub left_fits : SFits w128 (area -ℤ taken)

pub area_left : (f : FrontState) (ns : List ℕ) (area taken : ℤ) → IsFrontState f → IsGluable f ns → area ≡ shoelace (edges_of f) → taken ≡ shoelace (sides (corners_of f.points ns)) → LeavesArea f ns area taken
area_left f ns area taken h k e g = record { left = is; fits = subst (SFits w128) (sym e) fit.0; left_fits = subst (SFits w128) (sym is) fit.1 }
  where
    left : (u w s t r : ℤ) → u ≡ s → t ≡ r → s ≡ r +ℤ w → u -ℤ t ≡ w
    left u w s t r e g h = omega (arith, ints, e, g, h)

    is : area -ℤ taken ≡ shoelace (front_edges f.points (glued (state_of f) ns).front)
    is = left area (shoelace (front_edges f.points (glued (state_of f) ns).front)) (shoelace (edges_of f)) taken (shoelace (sides (corners_of f.points ns))) e g (area_glued f ns h k)

    fit : SFits w128 (shoelace (edges_of f)) × SFits w128 (shoelace (front_edges f.points (glued (state_of f) ns).front))
    fit = fits_left f.next (shoelace (edges_of f)) (shoelace (front_edges f.points (glued (state_of f) ns).front)) (shoelace (sides (corners_of f.points ns))) (area_glued f ns h k)
        (subst (λ (es : List Edge). shoelace es <ℤ shoelace (edges_of f)) (sym (edges_glued f ns h k)) (glued_falls (edges_of f) (corners_of f.points ns) k.may.turned)) k.may.covered h.bounded

-- ---- the opening
pub edges_opened : (points : List Point) (n : ℕ) (lines : List (ℕ × ℕ)) → front_edges points (numbered_from n lines) ≡ map (pair_edge points) lines
edges_opened points n [] = refl
edges_opened points n (e ∷ lines) = ap (λ (es : List Edge). pair_edge points e ∷ es) (edges_opened points (n + 1) lines)

numbered_above : (m n : ℕ) (lines : List (ℕ × ℕ)) → m < n → AllByRecursion (λ (other : ℕ × ℕ × ℕ). m < other.0) (numbered_from n lines)
numbered_above m n [] h = tt
numbered_above m n (e ∷ lines) h = (h, numbered_above m (n + 1) lines (omega arith))

numbered_rise : (n : ℕ) (lines : List (ℕ × ℕ)) → AreRising (numbered_from n lines) (n + length lines)
numbered_rise n [] = tt
numbered_rise n (e ∷ lines) = (numbered_above n (n + 1) lines (omega arith), below n (length lines), subst (AreRising (numbered_from (n + 1) lines)) (later n (length lines)) (numbered_rise (n + 1) lines))
  where
    below : (n k : ℕ) → n < n + suc k
    below n k = omega arith

    later : (n k : ℕ) → (n + 1) + k ≡ n + suc k
    later n k = omega arith

all_numbers : (m n : ℕ) → IsListed m n → Contains (numbers_to m) n
all_numbers zero n l = absurd (omega (arith, l.0, l.1))
all_numbers (suc m) n l = by (compared n m l.0 l.1) (all_numbers m n)
  where
    compared : (n m : ℕ) → 1 ≤ n → n ≤ suc m → IsListed m n ⊎ (suc m ≡ n)
    compared n m l k = grind arith

    by : IsListed m n ⊎ (suc m ≡ n) → (IsListed m n → Contains (numbers_to m) n) → Contains (numbers_to m ++ suc m ∷ []) n
    by (inl k) rest = Contains-append_left (numbers_to m) (suc m ∷ []) n (rest k)
    by (inr e) rest = Contains-append_right (numbers_to m) (suc m ∷ []) n (0, omega arith, e)

pub opening_ends : (points : List Point) (n : ℕ) (lines : List (ℕ × ℕ)) → AllByRecursion (λ line. IsListed (length points) line.1 × IsListed (length points) line.2) (numbered_from n lines) → AllByRecursion (λ ends. IsListed (length points) ends.0 × IsListed (length points) ends.1) lines
opening_ends points n [] h = tt
opening_ends points n (e ∷ lines) h = (h.0, opening_ends points (n + 1) lines h.1)

abbrev pub opened : List Point → List (ℕ × ℕ) → List ℕ → FrontState
opened points lines walk = record { points = points; lines = numbered_from 1 lines; next = 1 + length lines; walk = walk; waiting = idle_points (numbered_from 1 lines) (length points); spare_points = 0; spare_lines = 0 }

pub front_opened : (points : List Point) (lines : List (ℕ × ℕ)) (walk : List ℕ) → IsOpening points lines → IsWalk walk (numbered_from 1 lines) → IsFrontState (opened points lines walk)
front_opened points lines walk h w = record {
  numbered = record { different = h.numbered.different; lines_listed = h.numbered.lines_listed };
  on_grid = h.on_grid;
  positive = numbered_above 0 1 lines (omega arith);
  rising = numbered_rise 1 lines;
  region = subst IsRegion (sym same) h.region;
  bounded = subst (λ (es : List Edge). (1 + length lines) + 4 * or_zero (shoelace es) ≤ 2 ^ 64 - 1) (sym same) (one (length lines) (or_zero (shoelace (map (pair_edge points) lines))) h.bounded);
  walked = w;
  placed = λ n l. by n l (list_any (λ line. nat_eq line.1 n) (numbered_from 1 lines)) refl;
}
  where
    same : front_edges points (numbered_from 1 lines) ≡ map (pair_edge points) lines
    same = edges_opened points 1 lines

    one : (n a : ℕ) → n + 4 * a ≤ 2 ^ 64 - 2 → (1 + n) + 4 * a ≤ 2 ^ 64 - 1
    one n a h = omega (arith, h)

    by : (n : ℕ) → IsListed (length points) n → (b : Bool) → list_any (λ line. nat_eq line.1 n) (numbered_from 1 lines) ≡ b →
        (IsFrontPoint (front_edges points (numbered_from 1 lines)) (point_at points n) ⊎ IsSettled (front_edges points (numbered_from 1 lines)) (point_at points n)) ⊎ Contains (idle_points (numbered_from 1 lines) (length points)) n
    by n l true e = inl (inl (leaves_front points n (numbered_from 1 lines) e))
    by n l false e = inr (keep (λ k. not (list_any (λ line. nat_eq line.1 k) (numbered_from 1 lines))) (numbers_to (length points)) n (ap not e) (all_numbers (length points) n l))

-- ---- an element's corners
pub corners_on : (points : List Point) (ns : List ℕ) → All IsOnGrid points → AllByRecursion (IsListed (length points)) ns → All IsOnGrid (corners_of points ns)
corners_on points ns on listed = All-from_recursion IsOnGrid (corners_of points ns) (each ns listed)
  where
    inside : (n m : ℕ) → 1 ≤ n → n ≤ m → n - 1 < m
    inside n m l k = omega arith

    each : (ms : List ℕ) → AllByRecursion (IsListed (length points)) ms → AllByRecursion IsOnGrid (corners_of points ms)
    each [] h = tt
    each (m ∷ ms) h = (All-get_or IsOnGrid points (m - 1) (record { x = pos 0; y = pos 0 }) (inside m (length points) h.0.0 h.0.1) on, each ms h.1)

pub corner_step : (points places : List Point) (ns : List ℕ) (k : ℕ) (p : Point) → k < length ns → k < length places → take k places ≡ corners_of points (take k ns) → p ≡ point_at points (get_or ns k 0) → take (k + 1) (set places k p) ≡ corners_of points (take (k + 1) ns)
corner_step points places ns k p l m e f = take-set_at places k (k + 1) p refl m ∙ (λ i. e i ++ f i ∷ []) ∙ sym (map-append (point_at points) (take k ns) (get_or ns k 0 ∷ [])) ∙ ap (map (point_at points)) (sym (take_more ns k 0 l))
