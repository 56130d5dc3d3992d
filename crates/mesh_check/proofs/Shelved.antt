-- How often keys stand in a list in which one is put into an empty place.
--
-- No key is 0, which stands in an empty place. So of a number above 0 there is one more where it is put, and as many as before of others.
use Rattle.std.proofs.Common.{◌≡◌, ℕ, zero, suc, ◌+◌, ◌-◌, ◌<◌, ◌≤◌, nat_eq, nat_lt, Bool, true, false, cond, List, [], ◌∷◌, ◌++◌, map, length, slice_index_or, slice_set, replicate, take, drop, refl, sym, ◌∙◌, ap, arith}
use Rattle.std.proofs.lemmas.List.{take_all, drop_all, append-nil}
use Rattle.state_law.specs.State.{number_sides}
use Rattle.vol_format.specs.declared.EdgeRow.{EdgeRow}
use Rattle.vol_format.specs.declared.MeshElement.{MeshElement}
use Rattle.mesh_check.specs.declared.sides.Side.{Side}
use Rattle.mesh_check.specs.Balance.{turned, side_of, with_side, element_sides, row_sides}
use Rattle.mesh_check.specs.Keys.{key_of, times, AreAdded}
use Rattle.mesh_check.proofs.Paired.{keys_of_both}
use Rattle.mesh_check.proofs.SliceParts.{split_first}

-- a key in an empty place
pub put_once : (k key at : ℕ) (ns : List ℕ) → 0 < k → at < length ns → slice_index_or ns at 0 ≡ 0
    → times k (slice_set ns at key) ≡ times k (key ∷ []) + times k ns
put_once k key at [] h l e = absurd (omega (arith, l))
put_once k key zero (n ∷ ns) h l e = one_more (cond (nat_eq key k) 1 0) (times k ns) (cond (nat_eq n k) 1 0 + times k ns) (empty n (nat_eq n k) (times k ns) refl e)
  where
    one_more : (c m n : ℕ) → m ≡ n → c + m ≡ c + 0 + n
    one_more c m n e = omega arith

    other : (n : ℕ) → n ≡ 0 → nat_eq n k ≡ true → ⊥
    other n e f = grind arith

    empty : (n : ℕ) (b : Bool) (m : ℕ) → nat_eq n k ≡ b → n ≡ 0 → m ≡ cond b 1 0 + m
    empty n true m f e = absurd (other n e f)
    empty n false m f e = omega arith
put_once k key (suc at) (n ∷ ns) h l e =
    ap (λ (m : ℕ). cond (nat_eq n k) 1 0 + m) (put_once k key at ns h (omega (arith, l)) e)
    ∙ turned_sum (cond (nat_eq n k) 1 0) (times k (key ∷ [])) (times k ns)
  where
    turned_sum : (a b c : ℕ) → a + (b + c) ≡ b + (a + c)
    turned_sum a b c = omega arith

-- two lists one after the other
times_both : (k : ℕ) (ns ms : List ℕ) → times k (ns ++ ms) ≡ times k ns + times k ms
times_both k [] ms = nothing (times k ms)
  where
    nothing : (n : ℕ) → n ≡ 0 + n
    nothing n = omega arith
times_both k (n ∷ ns) ms = ap (λ (m : ℕ). cond (nat_eq n k) 1 0 + m) (times_both k ns ms) ∙ grouped (cond (nat_eq n k) 1 0) (times k ns) (times k ms)
  where
    grouped : (a b c : ℕ) → a + (b + c) ≡ a + b + c
    grouped a b c = omega arith

pub none_added : (old : List ℕ) → AreAdded [] old old
none_added old k h = nothing (times k old)
  where
    nothing : (n : ℕ) → n ≡ 0 + n
    nothing n = omega arith

pub both_added : (ks ls old mid new : List ℕ) → AreAdded ks old mid → AreAdded ls mid new → AreAdded (ks ++ ls) old new
both_added ks ls old mid new first second k h = second k h ∙ sums (times k ks) (times k ls) (times k old) (times k mid) (times k (ks ++ ls)) (first k h) (times_both k ks ls)
  where
    sums : (a b old mid both : ℕ) → mid ≡ a + old → both ≡ a + b → b + mid ≡ both + old
    sums a b old mid both e f = omega arith

-- the keys of the sides' turns
abbrev pub turns : List Side → List ℕ
turns ss = map key_of (map turned ss)

turns_both : (ss ts : List Side) → turns (ss ++ ts) ≡ turns ss ++ turns ts
turns_both [] ts = refl
turns_both (s ∷ ss) ts = ap (λ (ks : List ℕ). key_of (turned s) ∷ ks) (turns_both ss ts)

-- an edge row's turns, first that on its left and then that on its right
pub row_added : (row : EdgeRow) (old mid new : List ℕ) → AreAdded (turns (with_side (nat_lt 0 row.left) (side_of row.left (row.a, row.b)) [])) old mid
    → AreAdded (turns (with_side (nat_lt 0 row.right) (side_of row.right (row.b, row.a)) [])) mid new → AreAdded (turns (row_sides (row ∷ []))) old new
row_added row old mid new = in_front (nat_lt 0 row.left) (side_of row.left (row.a, row.b)) (with_side (nat_lt 0 row.right) (side_of row.right (row.b, row.a)) [])
  where
    in_front : (b : Bool) (s : Side) (rest : List Side) → AreAdded (turns (with_side b s [])) old mid → AreAdded (turns rest) mid new → AreAdded (turns (with_side b s rest)) old new
    in_front true s rest first second = both_added (key_of (turned s) ∷ []) (turns rest) old mid new first second
    in_front false s rest first second = both_added [] (turns rest) old mid new first second

-- empty places alone
pub none_put : (k n : ℕ) → 0 < k → times k (replicate n 0) ≡ 0
none_put k zero h = refl
none_put k (suc n) h = none (nat_eq 0 k) (times k (replicate n 0)) refl (none_put k n h)
  where
    other : nat_eq 0 k ≡ true → ⊥
    other f = grind arith

    none : (b : Bool) (m : ℕ) → nat_eq 0 k ≡ b → m ≡ 0 → cond b 1 0 + m ≡ 0
    none true m f e = absurd (other f)
    none false m f e = omega arith

-- ---- walking the elements and the edge rows
gone_on : (k : ℕ) (ks rest both cur new : List ℕ) (total : ℕ) → both ≡ ks ++ rest → times k new ≡ times k ks + times k cur → times k cur + times k both ≡ total → times k new + times k rest ≡ total
gone_on k ks rest both cur new total e put before = sums (times k ks) (times k rest) (times k cur) (times k new) (times k both) (ap (times k) e ∙ times_both k ks rest) put before
  where
    sums : (a b cur new both : ℕ) → both ≡ a + b → new ≡ a + cur → cur + both ≡ total → new + b ≡ total
    sums a b cur new both e f g = omega arith

pub sides_put : (k : ℕ) (ss rest : List Side) (cur new : List ℕ) (total : ℕ) → times k new ≡ times k (map key_of ss) + times k cur
    → times k cur + times k (map key_of (ss ++ rest)) ≡ total → times k new + times k (map key_of rest) ≡ total
sides_put k ss rest cur new total = gone_on k (map key_of ss) (map key_of rest) (map key_of (ss ++ rest)) cur new total (keys_of_both ss rest)

pub first_is : (left : List MeshElement) (e : MeshElement) → 1 ≤ length left → e ≡ slice_index_or left 0 e → left ≡ e ∷ take (length left - 1) (drop 1 left)
first_is left e h is = split_first left e h ∙ ap (λ (x : MeshElement). x ∷ take (length left - 1) (drop 1 left)) (sym is)

pub elements_put : (k : ℕ) (left rest : List MeshElement) (e : MeshElement) (corners cur new : List ℕ) (total : ℕ) → left ≡ e ∷ rest → corners ≡ e.corners
    → times k new ≡ times k (map key_of (map (side_of e.domain) (number_sides corners))) + times k cur
    → times k cur + times k (map key_of (element_sides left)) ≡ total → times k new + times k (map key_of (element_sides rest)) ≡ total
elements_put k left rest e corners cur new total split same put before =
    sides_put k (map (side_of e.domain) (number_sides e.corners)) (element_sides rest) cur new total
    (put ∙ ap (λ (ns : List ℕ). times k (map key_of (map (side_of e.domain) (number_sides ns))) + times k cur) same)
    (ap (λ (es : List MeshElement). times k cur + times k (map key_of (element_sides es))) (sym split) ∙ before)

row_front : (row : EdgeRow) (rows : List EdgeRow) → row_sides (row ∷ rows) ≡ row_sides (row ∷ []) ++ row_sides rows
row_front row rows = by_both (nat_lt 0 row.left) (nat_lt 0 row.right) (side_of row.left (row.a, row.b)) (side_of row.right (row.b, row.a)) (row_sides rows)
  where
    by_both : (b c : Bool) (s t : Side) (rest : List Side) → with_side b s (with_side c t rest) ≡ with_side b s (with_side c t []) ++ rest
    by_both true true s t rest = refl
    by_both true false s t rest = refl
    by_both false true s t rest = refl
    by_both false false s t rest = refl

pub turns_put : (k : ℕ) (row : EdgeRow) (rows : List EdgeRow) (cur new : List ℕ) (total : ℕ) → times k new ≡ times k (turns (row_sides (row ∷ []))) + times k cur
    → times k cur + times k (turns (row_sides (row ∷ rows))) ≡ total → times k new + times k (turns (row_sides rows)) ≡ total
turns_put k row rows cur new total = gone_on k (turns (row_sides (row ∷ []))) (turns (row_sides rows)) (turns (row_sides (row ∷ rows))) cur new total
    (ap turns (row_front row rows) ∙ turns_both (row_sides (row ∷ [])) (row_sides rows))

pub swapped : (m n : ℕ) → m + n ≡ n + m
swapped m n = omega arith

pub ended : (m n : ℕ) → m + 0 ≡ n → m ≡ n
ended m n e = omega arith

-- all that is put into empty places
pub all_put : (ks old new : List ℕ) (n : ℕ) → old ≡ replicate n 0 → AreAdded ks old new → (k : ℕ) → 0 < k → times k new ≡ times k ks
all_put ks old new n e added k h = added k h ∙ less (times k ks) (times k old) (ap (times k) e ∙ none_put k n h)
  where
    less : (m n : ℕ) → n ≡ 0 → m + n ≡ m
    less m n e = omega arith

-- what was lent as a slice and came back with other items, and as many
pub times_back : (k len : ℕ) (new items : List ℕ) → len ≡ length items → length new ≡ length items
    → times k (take len (new ++ drop (length new) items)) ≡ times k new
times_back k len new items e long =
    ap (λ (rest : List ℕ). times k (take len (new ++ rest))) (drop_all (length new) items (omega arith))
    ∙ ap (λ (ns : List ℕ). times k (take len ns)) (append-nil new)
    ∙ ap (times k) (take_all len new (omega arith))
