-- The steps of the walk: a riser is put in or taken out at a place right of what changed before, and all else is as it was.
use Rattle.std.proofs.Common.{◌≡◌, ℕ, ◌+◌, ◌-◌, ◌<◌, ◌≤◌, Bool, true, false, cond, List, [], ◌∷◌, ◌++◌, length, insert, remove, slice_index_or, Contains, ◌⊎◌, inl, inr, sym, ◌∙◌, ap, subst, refl, arith}
use Rattle.std.proofs.lemmas.Bool.{cases_lt, cases_order}
use Rattle.std.proofs.lemmas.List.{get_or_default}
use Rattle.std.proofs.lemmas.List.Edits.{get_or-insert_at, get_or-insert_below, get_or-insert_above, get_or-remove_below, get_or-remove_above, length-remove, length-insert}
use Rattle.std.proofs.lemmas.List.Elements.{All-push, Contains-append_left, Contains-append_right}
use Rattle.std.proofs.lemmas.List.Sums.{sum_by-insert, sum_by-remove, sum_by_more}
use Rattle.geom_check.specs.declared.risers.Riser.{Riser}
use Rattle.geom_check.specs.declared.events.Event.{Event}
use Rattle.geom_check.specs.Walk.{riser_at, IsEndOf, AreIn, AreNeighbours, DoAgree, DoAgreeAt, IsPutIn, IsTakenOut, IsWalking, AreSettled, AreRising, IsUpTo, begun, ended}

-- ---- neighbours
-- neighbours that stand at another place now
agree_moved : (risers : List Riser) (old new : List ℕ) (i j : ℕ) → slice_index_or new (i - 1) 0 ≡ slice_index_or old (j - 1) 0 → slice_index_or new i 0 ≡ slice_index_or old j 0 → DoAgreeAt risers old j → DoAgreeAt risers new i
agree_moved risers old new i j e f g = subst (λ (n : ℕ). DoAgree (riser_at risers n) (riser_at risers (slice_index_or new i 0))) (sym e) (subst (λ (n : ℕ). DoAgree (riser_at risers (slice_index_or old (j - 1) 0)) (riser_at risers n)) (sym f) g)

pushed_here : (changed : List ℕ) (x : ℕ) → Contains (changed ++ x ∷ []) x
pushed_here changed x = Contains-append_right changed (x ∷ []) x (0, omega arith, refl)

-- a place of the order is before the place p, at it or behind it
data Beside (i p : ℕ) : Type 0 where
  left : i < p → Beside i p
  here : i ≡ p → Beside i p
  right : p < i → Beside i p

beside : (i p : ℕ) → Beside i p
beside i p = elim (cases_order i p) [
  | inl e ↦ here e
  | inr r ↦ elim r [ inl h ↦ left h | inr h ↦ right h ]
]

pub settled_put : (risers : List Riser) (order changed new : List ℕ) (last p id : ℕ) → last ≤ p → p ≤ length order → new ≡ (changed ++ p ∷ []) ++ (p + 1) ∷ [] → AreSettled risers order changed last → AreSettled risers (insert order p id) new (p + 1)
settled_put risers order changed new last p id h l e s = subst (λ (xs : List ℕ). AreSettled risers (insert order p id) xs (p + 1)) (sym e) (record {
  agree = λ i j k. agree i j k (beside i p) (beside i (p + 1));
  before = All-push (λ i. i ≤ p + 1) (changed ++ p ∷ []) (p + 1) (All-push (λ i. i ≤ p + 1) changed p (λ i d k. let b = s.before i d k in omega (arith, b, h)) (omega arith)) (omega arith);
})
  where
    long : length (insert order p id) ≡ length order + 1
    long = length-insert order p id l

    kept : (i : ℕ) → Contains changed i → Contains ((changed ++ p ∷ []) ++ (p + 1) ∷ []) i
    kept i c = Contains-append_left (changed ++ p ∷ []) ((p + 1) ∷ []) i (Contains-append_left changed (p ∷ []) i c)

    agree : (i : ℕ) → 1 ≤ i → i < length (insert order p id) → Beside i p → Beside i (p + 1) → DoAgreeAt risers (insert order p id) i ⊎ Contains ((changed ++ p ∷ []) ++ (p + 1) ∷ []) i
    agree i j k (left b) c = elim (s.agree i j (omega (arith, b, l))) [
      | inl g ↦ inl (agree_moved risers order (insert order p id) i i (get_or-insert_below order p id 0 (i - 1) (omega (arith, b)) l) (get_or-insert_below order p id 0 i b l) g)
      | inr g ↦ inr (kept i g)
    ]
    agree i j k (here b) c = inr (subst (λ (n : ℕ). Contains ((changed ++ p ∷ []) ++ (p + 1) ∷ []) n) (sym b) (Contains-append_left (changed ++ p ∷ []) ((p + 1) ∷ []) p (pushed_here changed p)))
    agree i j k (right b) (left c) = absurd (omega (arith, b, c))
    agree i j k (right b) (here c) = inr (subst (λ (n : ℕ). Contains ((changed ++ p ∷ []) ++ (p + 1) ∷ []) n) (sym c) (pushed_here (changed ++ p ∷ []) (p + 1)))
    agree i j k (right b) (right c) = elim (s.agree (i - 1) (omega (arith, c)) (omega (arith, k, long, j))) [
      | inl g ↦ inl (agree_moved risers order (insert order p id) i (i - 1) (moved (i - 1) (omega (arith, c)) (omega (arith, c))) (moved i b j) g)
      | inr g ↦ absurd (beyond (i - 1) (s.before g.0 (i - 1) g.1) g.2 (omega (arith, c)))
    ]
      where
        moved : (k : ℕ) → p < k → 1 ≤ k → slice_index_or (insert order p id) k 0 ≡ slice_index_or order (k - 1) 0
        moved k b j = ap (λ (n : ℕ). slice_index_or (insert order p id) n 0) (whole k j) ∙ get_or-insert_above order p id 0 (k - 1) (omega (arith, b)) l
          where
            whole : (k : ℕ) → 1 ≤ k → k ≡ k - 1 + 1
            whole k j = omega arith

        beyond : (m : ℕ) {n : ℕ} → n ≤ last → n ≡ m → p < m → ⊥
        beyond m {n} e f g = omega (arith, e, f, g, h)

pub settled_out : (risers : List Riser) (order kept changed new : List ℕ) (last p : ℕ) → last ≤ p → p < length order → kept ≡ remove order p → new ≡ changed ++ p ∷ [] → AreSettled risers order changed last → AreSettled risers kept new p
settled_out risers order kept changed new last p h l f e s = subst (λ (xs : List ℕ). AreSettled risers xs new p) (sym f) (subst (λ (xs : List ℕ). AreSettled risers (remove order p) xs p) (sym e) (record {
  agree = λ i j k. agree i j k (beside i p);
  before = All-push (λ i. i ≤ p) changed p (λ i d k. let b = s.before i d k in omega (arith, b, h)) (omega arith);
}))
  where
    long : length (remove order p) + 1 ≡ length order
    long = length-remove order p l

    agree : (i : ℕ) → 1 ≤ i → i < length (remove order p) → Beside i p → DoAgreeAt risers (remove order p) i ⊎ Contains (changed ++ p ∷ []) i
    agree i j k (left b) = elim (s.agree i j (omega (arith, k, long))) [
      | inl g ↦ inl (agree_moved risers order (remove order p) i i (get_or-remove_below order p 0 (i - 1) (omega (arith, b)) l) (get_or-remove_below order p 0 i b l) g)
      | inr g ↦ inr (Contains-append_left changed (p ∷ []) i g)
    ]
    agree i j k (here b) = inr (subst (λ (n : ℕ). Contains (changed ++ p ∷ []) n) (sym b) (pushed_here changed p))
    agree i j k (right b) = elim (s.agree (i + 1) (omega arith) (omega (arith, k, long))) [
      | inl g ↦ inl (agree_moved risers order (remove order p) i (i + 1) (get_or-remove_above order p 0 (i - 1) (omega (arith, b)) l ∙ ap (λ (n : ℕ). slice_index_or order n 0) (same i j)) (get_or-remove_above order p 0 i (omega (arith, b)) l) g)
      | inr g ↦ absurd (beyond (i + 1) (s.before g.0 (i + 1) g.1) g.2 (omega (arith, b)))
    ]
      where
        same : (k : ℕ) → 1 ≤ k → k - 1 + 1 ≡ k + 1 - 1
        same k j = omega arith

        beyond : (m : ℕ) {n : ℕ} → n ≤ last → n ≡ m → p < m → ⊥
        beyond m {n} e f g = omega (arith, e, f, g, h)

-- where nothing has changed, all neighbours agree
pub settled_before : (risers : List Riser) (order changed : List ℕ) (last : ℕ) → changed ≡ [] → AreNeighbours risers order → AreSettled risers order changed last
settled_before risers order changed last e n = subst (λ (xs : List ℕ). AreSettled risers order xs last) (sym e) (record { agree = λ i h k. inl (n i h k); before = λ i d h. absurd (omega arith) })

-- and where the places that changed agree too, all do
pub settled_after : (risers : List Riser) (order changed : List ℕ) (last : ℕ) → AreSettled risers order changed last → ((i : ℕ) → Contains changed i → 1 ≤ i → i < length order → DoAgreeAt risers order i) → AreNeighbours risers order
settled_after risers order changed last s agree i h k = elim (s.agree i h k) [ inl g ↦ g | inr c ↦ agree i c h k ]

-- ---- what has begun and not ended
within_put : (risers : List Riser) (order : List ℕ) (p id : ℕ) → id < length risers → p ≤ length order → AreIn risers order → AreIn risers (insert order p id)
within_put risers order p id h l all i d k = subst (λ (n : ℕ). n < length risers) (get_or_default (insert order p id) i 0 d k) (by (beside i p))
  where
    long : length (insert order p id) ≡ length order + 1
    long = length-insert order p id l

    by : Beside i p → slice_index_or (insert order p id) i 0 < length risers
    by (left b) = subst (λ (n : ℕ). n < length risers) (sym (get_or-insert_below order p id 0 i b l)) (all i 0 (omega (arith, b, l)))
    by (here b) = subst (λ (n : ℕ). slice_index_or (insert order p id) n 0 < length risers) (sym b) (subst (λ (n : ℕ). n < length risers) (sym (get_or-insert_at order p id 0 l)) h)
    by (right b) = subst (λ (n : ℕ). slice_index_or (insert order p id) n 0 < length risers) (whole i (omega (arith, b))) (subst (λ (n : ℕ). n < length risers) (sym (get_or-insert_above order p id 0 (i - 1) (omega (arith, b)) l)) (all (i - 1) 0 (omega (arith, b, k, long))))
      where
        whole : (k : ℕ) → 1 ≤ k → k - 1 + 1 ≡ k
        whole k j = omega arith

within_out : (risers : List Riser) (order : List ℕ) (p : ℕ) → p < length order → AreIn risers order → AreIn risers (remove order p)
within_out risers order p l all i d k = elim (cases_lt i p) [
  | inl b ↦ subst (λ (n : ℕ). n < length risers) (sym (get_or-remove_below order p d i b l)) (all i d (omega (arith, k, long)))
  | inr b ↦ subst (λ (n : ℕ). n < length risers) (sym (get_or-remove_above order p d i b l)) (all (i + 1) d (omega (arith, k, long)))
]
  where
    long : length (remove order p) + 1 ≡ length order
    long = length-remove order p l

pub walking_put : (risers : List Riser) (events : List Event) (next : ℕ) (d : Event) (order new : List ℕ) → next < length events → IsEndOf risers (slice_index_or events next d) → (slice_index_or events next d).is_upper ≡ false → IsPutIn (slice_index_or events next d).id order new
    → IsWalking risers events next order → IsWalking risers events (next + 1) new
walking_put risers events next d order new h end u put w = subst (λ (xs : List ℕ). IsWalking risers events (next + 1) xs) (sym put.new_is) (record {
  within = within_put risers order put.place (slice_index_or events next d).id end.in_list put.in_list w.within;
  counted = λ f. added _ _ _ _ _ _ _ _ _ (sum_by-insert f order put.place (slice_index_or events next d).id) (sum_by_more (ended f) events next d h) (sum_by_more (begun f) events next d h) (w.counted f)
      (ap (λ (b : Bool). cond b (f (slice_index_or events next d).id) 0) u) (ap (λ (b : Bool). cond b 0 (f (slice_index_or events next d).id)) u);
})
  where
    added : (o n e b e2 b2 x y z : ℕ) → n ≡ o + x → e2 ≡ e + y → b2 ≡ b + z → o + e ≡ b → y ≡ 0 → z ≡ x → n + e2 ≡ b2
    added o n e b e2 b2 x y z p q r s t u = omega (arith, p, q, r, s, t, u)

pub walking_out : (risers : List Riser) (events : List Event) (next : ℕ) (d : Event) (order new : List ℕ) → next < length events → (slice_index_or events next d).is_upper ≡ true → IsTakenOut (slice_index_or events next d).id order new
    → IsWalking risers events next order → IsWalking risers events (next + 1) new
walking_out risers events next d order new h u out w = subst (λ (xs : List ℕ). IsWalking risers events (next + 1) xs) (sym out.new_is) (record {
  within = within_out risers order out.place out.in_list w.within;
  counted = λ f. taken _ _ _ _ _ _ _ _ _ _ (sum_by-remove f order out.place 0 out.in_list) (ap f out.id_is) (sum_by_more (ended f) events next d h) (sum_by_more (begun f) events next d h) (w.counted f)
      (ap (λ (b : Bool). cond b (f (slice_index_or events next d).id) 0) u) (ap (λ (b : Bool). cond b 0 (f (slice_index_or events next d).id)) u);
})
  where
    taken : (o n e b e2 b2 w x y z : ℕ) → n + w ≡ o → w ≡ x → e2 ≡ e + y → b2 ≡ b + z → o + e ≡ b → y ≡ x → z ≡ 0 → n + e2 ≡ b2
    taken o n e b e2 b2 w x y z p v q r s t u = omega (arith, p, v, q, r, s, t, u)

-- ---- the events up to a level
pub up_to_all : (events : List Event) (next level : ℕ) → next ≡ length events → ((i : ℕ) (d : Event) → i < next → (slice_index_or events i d).level ≤ level) → IsUpTo events next level
up_to_all events next level e low = record { in_list = omega (arith, e); reached = low; beyond = λ i d h k. absurd (omega (arith, e, h, k)) }

pub up_to_next : (events : List Event) (next level : ℕ) (d : Event) → next < length events → level < (slice_index_or events next d).level → AreRising events → ((i : ℕ) (d : Event) → i < next → (slice_index_or events i d).level ≤ level) → IsUpTo events next level
up_to_next events next level d h l up low = record {
  in_list = omega (arith, h);
  reached = low;
  beyond = λ i e j k. let a = up next i e j k in let b : level < (slice_index_or events next e).level = subst (λ (x : Event). level < x.level) (get_or_default events next d e h) l in omega (arith, a, b);
}

pub reached_next : (events : List Event) (next level : ℕ) (d : Event) → next < length events → (slice_index_or events next d).level ≤ level → ((i : ℕ) (d : Event) → i < next → (slice_index_or events i d).level ≤ level) → (i : ℕ) (e : Event) → i < next + 1 → (slice_index_or events i e).level ≤ level
reached_next events next level d h l low i e k = elim (cases_lt i next) [
  | inl j ↦ low i e j
  | inr j ↦ let f : next ≡ i = omega arith in subst (λ (n : ℕ). (slice_index_or events n e).level ≤ level) f (subst (λ (x : Event). x.level ≤ level) (get_or_default events next d e h) l)
]
