-- Entries of trees: what is in the box of an entry, and what a box picks out.
use Rattle.std.proofs.Common.{◌≡◌, ◌⊎◌, ℕ, ◌+◌, ◌-◌, ◌<◌, ◌≤◌, Bool, true, false, cond, List, [], ◌∷◌, ◌++◌, length, slice_index_or, take, filter, All, inl, inr, sym, ◌∙◌, ap, subst, arith}
use lib.IntN.{ℤ, pos}
use lib.Signed.{◌≤ℤ◌}
use Rattle.std.specs.Int.{int_max, int_min}
use Rattle.std.specs.List.{AllByRecursion}
use Rattle.std.proofs.lemmas.Bool.{cases_lt}
use Rattle.std.proofs.lemmas.Int.{ints, clamps}
use Rattle.std.proofs.lemmas.List.{get_or_default, take_more, take_all}
use Rattle.std.proofs.lemmas.List.Elements.{recursion_from_All}
use Rattle.grid_geom.specs.declared.Point.{Point}
use Rattle.grid_geom.specs.declared.Edge.{Edge}
use Rattle.grid_geom.specs.declared.Bounds.{Bounds}
use Rattle.grid_geom.specs.Bounds.{IsOnGrid}
use Rattle.grid_geom.specs.Sides.{IsOnOpen}
use Rattle.grid_geom.specs.Polygon.{sides}
use Rattle.digital_tree.specs.declared.Key.{Key}
use Rattle.digital_tree.specs.declared.Entry.{Entry}
use Rattle.digital_tree.specs.Entries.{is_hit, IsInserted}
use Rattle.digital_tree.proofs.Lists.{all_inserted}
use Rattle.digital_tree.proofs.Meets.{meeting}
use Rattle.wind_law.specs.Chains.{edge}
use Rattle.state_law.specs.State.{IsListed, point_at}
use Rattle.state_law.proofs.Lists.{side_ends, at_named, all_append}
use Rattle.vol_format.specs.declared.EdgeRow.{EdgeRow}
use Rattle.mesh_check.specs.Parts.{RowJoins, row_edge}
use Rattle.mesh_check.specs.Near.{box_at, IsInBounds, HasEntry, IsPlaced, IsPointEntry, AreKept, IsEdgeEntry, HasEdge, IsFreeOf}
use Rattle.mesh_check.specs.Whole.{IsInOpenSide}
use Rattle.mesh_check.proofs.Prefixes.{each_more}

-- ---- one of the entries
module _ {V : Type 0} where
  pub has_map : (P Q : Entry V → Type 0) → ((e : Entry V) → P e → Q e) → (es : List (Entry V)) → HasEntry P es → HasEntry Q es
  has_map P Q f [] h = h
  has_map P Q f (e ∷ es) (inl p) = inl (f e p)
  has_map P Q f (e ∷ es) (inr h) = inr (has_map P Q f es h)

  pub has_either : (P Q R : Entry V → Type 0) → ((e : Entry V) → P e → Q e ⊎ R e) → (es : List (Entry V)) → HasEntry P es → HasEntry Q es ⊎ HasEntry R es
  has_either P Q R f [] h = absurd h
  has_either P Q R f (e ∷ es) (inl p) = elim (f e p) [ inl q ↦ inl (inl q) | inr r ↦ inr (inl r) ]
  has_either P Q R f (e ∷ es) (inr h) = elim (has_either P Q R f es h) [ inl q ↦ inl (inr q) | inr r ↦ inr (inr r) ]

  -- what follows of any one follows
  pub has_some : (P : Entry V → Type 0) (R : Type 0) → ((e : Entry V) → P e → R) → (es : List (Entry V)) → HasEntry P es → R
  has_some P R f [] h = absurd h
  has_some P R f (e ∷ es) (inl p) = f e p
  has_some P R f (e ∷ es) (inr h) = has_some P R f es h

  -- with what holds of all
  pub has_with : (R P : Entry V → Type 0) (es : List (Entry V)) → AllByRecursion R es → HasEntry P es → HasEntry (λ e. R e × P e) es
  has_with R P [] all h = h
  has_with R P (e ∷ es) all (inl p) = inl (all.0, p)
  has_with R P (e ∷ es) all (inr h) = inr (has_with R P es all.1 h)

  pub has_first : (P : Entry V → Type 0) (xs ys : List (Entry V)) → HasEntry P xs → HasEntry P (xs ++ ys)
  has_first P [] ys h = absurd h
  has_first P (x ∷ xs) ys (inl p) = inl p
  has_first P (x ∷ xs) ys (inr h) = inr (has_first P xs ys h)

  pub has_second : (P : Entry V → Type 0) (xs ys : List (Entry V)) → HasEntry P ys → HasEntry P (xs ++ ys)
  has_second P [] ys h = h
  has_second P (x ∷ xs) ys h = inr (has_second P xs ys h)

  pub has_parts : (P : Entry V → Type 0) (xs ys : List (Entry V)) → HasEntry P (xs ++ ys) → HasEntry P xs ⊎ HasEntry P ys
  has_parts P [] ys h = inr h
  has_parts P (x ∷ xs) ys (inl p) = inl (inl p)
  has_parts P (x ∷ xs) ys (inr h) = elim (has_parts P xs ys h) [ inl q ↦ inl (inr q) | inr r ↦ inr r ]

  -- an entry put in, and those that were there
  pub has_put : (P : Entry V → Type 0) {e : Entry V} {old new : List (Entry V)} → IsInserted e old new → HasEntry P old → HasEntry P new
  has_put P {e} i h = subst (HasEntry P) (sym i.is) (elim (has_parts P i.before i.after (subst (HasEntry P) i.was h)) [
    | inl b ↦ has_first P i.before (e ∷ i.after) b
    | inr a ↦ has_second P i.before (e ∷ i.after) (inr a)
  ])

  pub has_new : (P : Entry V → Type 0) {e : Entry V} {old new : List (Entry V)} → IsInserted e old new → P e → HasEntry P new
  has_new P {e} i p = subst (HasEntry P) (sym i.is) (has_second P i.before (e ∷ i.after) (inl p))

  -- what a test picks out
  pub has_hit : (t : Entry V → Bool) (P : Entry V → Type 0) → ((e : Entry V) → P e → t e ≡ true) → (es : List (Entry V)) → HasEntry P es → HasEntry P (filter t es)
  has_hit t P f [] h = h
  has_hit t P f (e ∷ es) (inl p) = subst (λ (b : Bool). HasEntry P (cond b (e ∷ filter t es) (filter t es))) (sym (f e p)) (inl p)
  has_hit t P f (e ∷ es) (inr h) = later (t e) (has_hit t P f es h)
    where
      later : (b : Bool) → HasEntry P (filter t es) → HasEntry P (cond b (e ∷ filter t es) (filter t es))
      later true k = inr k
      later false k = k

  pub had_hit : (t : Entry V → Bool) (P : Entry V → Type 0) (es : List (Entry V)) → HasEntry P (filter t es) → HasEntry P es
  had_hit t P [] h = h
  had_hit t P (e ∷ es) h = chosen (t e) (had_hit t P es) h
    where
      chosen : (b : Bool) → (HasEntry P (filter t es) → HasEntry P es) → HasEntry P (cond b (e ∷ filter t es) (filter t es)) → P e ⊎ HasEntry P es
      chosen true f (inl p) = inl p
      chosen true f (inr k) = inr (f k)
      chosen false f k = inr (f k)

  -- what is pushed onto nothing
  pub onto_none : (hits old es : List (Entry V)) → hits ≡ old ++ es → old ≡ [] → hits ≡ es
  onto_none hits old es e f = e ∙ ap (λ (xs : List (Entry V)). xs ++ es) f

  pub all_hits : (t : Entry V → Bool) (P : Entry V → Type 0) (es : List (Entry V)) → AllByRecursion P es → AllByRecursion P (filter t es)
  all_hits t P [] h = tt
  all_hits t P (e ∷ es) h = chosen (t e) (all_hits t P es h.1)
    where
      chosen : (b : Bool) → AllByRecursion P (filter t es) → AllByRecursion P (cond b (e ∷ filter t es) (filter t es))
      chosen true k = (h.0, k)
      chosen false k = k

-- ---- boxes
between_most : (u w z m : ℤ) → z ≤ℤ int_max u w → u ≤ℤ m → w ≤ℤ m → z ≤ℤ m
between_most u w z m h k l = omega (arith, ints, clamps)

between_least : (u w z m : ℤ) → int_min u w ≤ℤ z → m ≤ℤ u → m ≤ℤ w → m ≤ℤ z
between_least u w z m h k l = omega (arith, ints, clamps)

-- what is in an open side is in each box that holds the side's ends
pub side_inside : (b : Bounds) (u w p : Point) → IsInBounds b u → IsInBounds b w → IsOnOpen p u w → IsInBounds b p
side_inside b u w p h k o = record {
  first_column = between_most u.x w.x p.x b.hi.x o.left_of_greatest h.first_column k.first_column;
  second_column = between_least u.x w.x p.x b.lo.x o.right_of_least h.second_column k.second_column;
  first_row = between_most u.y w.y p.y b.hi.y o.below_greatest h.first_row k.first_row;
  second_row = between_least u.y w.y p.y b.lo.y o.above_least h.second_row k.second_row;
}

pub polygon_inside : (b : Bounds) (cs : List Point) (p : Point) → All (IsInBounds b) cs → IsInOpenSide (sides cs) p → IsInBounds b p
polygon_inside b cs p all side =
    let ends = at_named (λ (s : Edge). IsOnOpen p s.a s.b) (λ (s : Edge). IsInBounds b s.a × IsInBounds b s.b) (sides cs) (side_ends (IsInBounds b) cs (recursion_from_All (IsInBounds b) cs all)) side in
    side_inside b side.1.a side.1.b p ends.0 ends.1 side.4

-- a place in a box is picked out by it, and picks out the boxes that it is in
pub placed_hit : (b : Bounds) (e : Entry ℕ) → IsPlaced e → IsInBounds b e.bounds.lo → is_hit b e ≡ true
placed_hit b e placed h = meeting e.bounds b (record {
  first_column = h.first_column;
  second_column = subst (λ (p : Point). b.lo.x ≤ℤ p.x) (sym placed.alone) h.second_column;
  first_row = h.first_row;
  second_row = subst (λ (p : Point). b.lo.y ≤ℤ p.y) (sym placed.alone) h.second_row;
})

pub edge_hit : (p : Point) (e : Entry Edge) → IsEdgeEntry e → IsOnOpen p e.value.a e.value.b → is_hit (box_at p) e ≡ true
edge_hit p e entry o =
    let h = side_inside e.bounds e.value.a e.value.b p entry.start_in entry.end_in o in
    meeting e.bounds (box_at p) (record { first_column = h.second_column; second_column = h.first_column; first_row = h.second_row; second_row = h.first_row })

-- ---- points in a tree
pub keep_more : (points : List Point) (passed : List Bool) (key : Key) (i : ℕ) (d : Point) (b : Bounds) (old new : List (Entry ℕ)) → i < length points → All IsOnGrid points → b ≡ box_at (slice_index_or points i d)
    → IsInserted (record { key = key; bounds = b; value = i }) old new → AreKept points passed i old → AreKept points passed (i + 1) new
keep_more points passed key i d b old new l on is put kept = record {
  each = all_inserted (IsPointEntry points) put (record {
    placed = record { on_grid = subst IsOnGrid (sym lo) (on i d l); alone = ap (λ (c : Bounds). c.hi) is ∙ sym lo };
    in_list = l;
    place = λ e. get_or_default points i e d l ∙ sym lo;
  }) kept.each;
  all = λ j m. elim (cases_lt j i) [
    | inl n ↦ elim (kept.all j n) [ inl t ↦ inl t | inr h ↦ inr (has_put (λ e. e.value ≡ j) put h) ]
    | inr n ↦ let same : i ≡ j = omega (arith, m, n) in inr (has_new (λ e. e.value ≡ j) put same)
  ];
}
  where
    lo : b.lo ≡ slice_index_or points i d
    lo = ap (λ (c : Bounds). c.lo) is

pub pass_more : (points : List Point) (passed : List Bool) (i : ℕ) (d : Bool) (es : List (Entry ℕ)) → i < length passed → slice_index_or passed i d ≡ true → AreKept points passed i es → AreKept points passed (i + 1) es
pass_more points passed i d es l t kept = record {
  each = kept.each;
  all = λ j m. elim (cases_lt j i) [
    | inl n ↦ kept.all j n
    | inr n ↦ let same : i ≡ j = omega (arith, m, n) in inl (ap (λ k. slice_index_or passed k true) (sym same) ∙ get_or_default passed i true d l ∙ t)
  ];
}

-- ---- edge rows in a tree
-- the entries are those of edges, among them each row before `end`
pub record AreRows (points : List Point) (rows : List EdgeRow) (end : ℕ) (es : List (Entry Edge)) : Type 0 where
  pub each : AllByRecursion IsEdgeEntry es
  pub all : (k : ℕ) (d : EdgeRow) → k < end → HasEdge (row_edge points (slice_index_or rows k d)) es

-- the ends of a row, as the tree takes them
pub record AreEndsOf (points : List Point) (row : EdgeRow) (b : Bounds) (u w : Point) : Type 0 where
  pub joins : RowJoins (length points) row
  pub start : u ≡ point_at points row.a
  pub finish : w ≡ point_at points row.b
  pub box : All (IsInBounds b) (u ∷ w ∷ [])

point_on : (points : List Point) (n : ℕ) (p : Point) → All IsOnGrid points → IsListed (length points) n → p ≡ point_at points n → IsOnGrid p
point_on points n p on h e = subst IsOnGrid (sym e) (on (n - 1) (record { x = pos 0; y = pos 0 }) (omega (arith, h.0, h.1)))

pub row_more : (points : List Point) (rows : List EdgeRow) (key : Key) (i : ℕ) (d : EdgeRow) (b : Bounds) (u w : Point) (old new : List (Entry Edge)) → i < length rows → All IsOnGrid points → AreEndsOf points (slice_index_or rows i d) b u w
    → IsInserted (record { key = key; bounds = b; value = edge u w }) old new → AreRows points rows i old → AreRows points rows (i + 1) new
row_more points rows key i d b u w old new l on ends put kept = record {
  each = all_inserted IsEdgeEntry put (record {
    start_on = point_on points row.a u on ends.joins.start ends.start;
    end_on = point_on points row.b w on ends.joins.finish ends.finish;
    start_in = ends.box 0 u (omega arith);
    end_in = ends.box 1 u (omega arith);
  }) kept.each;
  all = each_more (λ r. HasEdge (row_edge points r) new) rows i d l (has_new (λ e. e.value ≡ row_edge points row) put (ap (λ (p : Point). edge p w) ends.start ∙ ap (edge (point_at points row.a)) ends.finish))
      (λ k e m. has_put (λ f. f.value ≡ row_edge points (slice_index_or rows k e)) put (kept.all k e m));
}
  where
    row : EdgeRow
    row = slice_index_or rows i d

pub all_rows : (points : List Point) (rows : List EdgeRow) (end : ℕ) (es : List (Entry Edge)) → length rows ≤ end → AreRows points rows end es → All (λ row. HasEdge (row_edge points row) es) rows
all_rows points rows end es h kept k d l = kept.all k d (omega (arith, l, h))

-- one more edge that a place isn't in
pub free_more : (p : Point) (hits : List (Entry Edge)) (i : ℕ) (d : Entry Edge) → i < length hits → ¬ (IsOnOpen p (slice_index_or hits i d).value.a (slice_index_or hits i d).value.b) → IsFreeOf (take i hits) p → IsFreeOf (take (i + 1) hits) p
free_more p hits i d l n free = subst (λ (es : List (Entry Edge)). IsFreeOf es p) (sym (take_more hits i d l)) (all_append (λ e. ¬ (IsOnOpen p e.value.a e.value.b)) (take i hits) (slice_index_or hits i d ∷ []) free (n, tt))

pub free_all : (p : Point) (hits : List (Entry Edge)) (end : ℕ) → length hits ≤ end → IsFreeOf (take end hits) p → IsFreeOf hits p
free_all p hits end h free = subst (λ (es : List (Entry Edge)). IsFreeOf es p) (take_all end hits h) free

-- what is in no open edge that its box picks out is in none
pub free_by_hits : (p : Point) (es : List (Entry Edge)) → AllByRecursion IsEdgeEntry es → IsFreeOf (filter (is_hit (box_at p)) es) p → IsFreeOf es p
free_by_hits p [] each free = tt
free_by_hits p (e ∷ es) each free = chosen (is_hit (box_at p) e) (edge_hit p e each.0) (free_by_hits p es each.1) free
  where
    chosen : (b : Bool) → (IsOnOpen p e.value.a e.value.b → b ≡ true) → (IsFreeOf (filter (is_hit (box_at p)) es) p → IsFreeOf es p) → IsFreeOf (cond b (e ∷ filter (is_hit (box_at p)) es) (filter (is_hit (box_at p)) es)) p
        → (¬ (IsOnOpen p e.value.a e.value.b)) × IsFreeOf es p
    chosen true f rest h = (h.0, rest h.1)
    chosen false f rest h = ((λ o. let t = f o in absurd cc), rest h)
