-- The table of a view's lines: a line that joins stands at the end, and the least of some lines leaves as gluing says.
use Rattle.std.proofs.Common.{◌≡◌, ℕ, zero, suc, ◌+◌, ◌<◌, Bool, true, false, cond, ◌&&◌, ◌||◌, nat_eq, List, [], ◌∷◌, ◌++◌, length, take, get_or, set, Option, Some, None, refl, sym, ap, subst, ◌∙◌, arith}
use Rattle.std.specs.List.{list_any}
use Rattle.std.proofs.lemmas.List.{append-nil, take_more, length-take-le}
use Rattle.state_law.specs.State.{does_join, glue_line, next_after}
use Rattle.run_log.specs.declared.table.Ends.{Ends}
use Rattle.run_log.specs.contracts.table.EndsPartialEq.TheImpl as eq
use Rattle.run_log.specs.Table.{lines_from, numbers_of, AreKept}

-- what `==` answers of two lines' ends
abbrev pub same : Ends → Ends → Bool
same = eq.ghosts.eq

eq_sound : (m n : ℕ) → nat_eq m n ≡ true → m ≡ n
eq_sound m n h = grind arith

both : (a b : Bool) → (a && b) ≡ true → (a ≡ true) × (b ≡ true)
both true b h = (refl, h)
both false b h = absurd cc

pub same_sound : (s t : Ends) → same s t ≡ true → s ≡ t
same_sound s t h = let k = both (nat_eq s.from t.from) (nat_eq s.to t.to) h in λ i. record { from = eq_sound s.from t.from k.0 i; to = eq_sound s.to t.to k.1 i }

-- ---- a line that joins
plain : (n : ℕ) → n ≡ n + 0
plain n = omega arith

later : (n k : ℕ) → (n + 1) + k ≡ n + suc k
later n k = omega arith

pub lines_push : (n : ℕ) (made : List (Option Ends)) (t : Ends) → lines_from n (made ++ Some t ∷ []) ≡ lines_from n made ++ (n + length made, t.from, t.to) ∷ []
lines_push n [] t = ap (λ (m : ℕ). (m, t.from, t.to) ∷ []) (plain n)
lines_push n (None ∷ made) t = lines_push (n + 1) made t ∙ ap (λ (m : ℕ). lines_from (n + 1) made ++ (m, t.from, t.to) ∷ []) (later n (length made))
lines_push n (Some s ∷ made) t = ap (λ ls. (n, s.from, s.to) ∷ ls) (lines_push (n + 1) made t ∙ ap (λ (m : ℕ). lines_from (n + 1) made ++ (m, t.from, t.to) ∷ []) (later n (length made)))

numbers_push : (lines : List (ℕ × ℕ × ℕ)) (n : ℕ) (t s : Ends) → numbers_of (lines ++ (n, t.from, t.to) ∷ []) s ≡ numbers_of lines s ++ cond (same t s) (n ∷ []) []
numbers_push [] n t s = refl
numbers_push (line ∷ lines) n t s = chosen (does_join line (s.from, s.to)) line.0 (numbers_of (lines ++ (n, t.from, t.to) ∷ []) s) (numbers_of lines s) (cond (same t s) (n ∷ []) []) (numbers_push lines n t s)
  where
    chosen : (b : Bool) (k : ℕ) (all front back : List ℕ) → all ≡ front ++ back → cond b (k ∷ all) all ≡ cond b (k ∷ front) front ++ back
    chosen true k all front back e = ap (λ ns. k ∷ ns) e
    chosen false k all front back e = e

-- the numbers that are kept once a line has joined
pub kept_push : (made : List (Option Ends)) (t : Ends) (before after : Ends → List ℕ) → AreKept made before → after t ≡ before t ++ (1 + length made) ∷ []
    → ((s : Ends) → same t s ≡ false → after s ≡ before s) → AreKept (made ++ Some t ∷ []) after
kept_push made t before after kept its others s =
    by (same t s) refl ∙ sym (ap (λ ls. numbers_of ls s) (lines_push 1 made t) ∙ numbers_push (lines_from 1 made) (1 + length made) t s)
  where
    by : (b : Bool) → same t s ≡ b → after s ≡ numbers_of (lines_from 1 made) s ++ cond (same t s) ((1 + length made) ∷ []) []
    by true e = rw e (subst (λ (u : Ends). after u ≡ numbers_of (lines_from 1 made) u ++ (1 + length made) ∷ []) (same_sound t s e) (its ∙ ap (λ ns. ns ++ (1 + length made) ∷ []) (kept t)))
    by false e = rw e (others s e ∙ kept s ∙ sym (append-nil (numbers_of (lines_from 1 made) s)))

-- where nothing changed for any ends, all is kept
pub kept_same : (made : List (Option Ends)) (t : Ends) (before after : Ends → List ℕ) → AreKept made before → after t ≡ before t → ((s : Ends) → same t s ≡ false → after s ≡ before s) → AreKept made after
kept_same made t before after kept its others s = by (same t s) refl
  where
    by : (b : Bool) → same t s ≡ b → after s ≡ numbers_of (lines_from 1 made) s
    by true e = subst (λ (u : Ends). after u ≡ numbers_of (lines_from 1 made) u) (same_sound t s e) (its ∙ kept t)
    by false e = others s e ∙ kept s

-- ---- a line that leaves
first_is : (n m : ℕ) (ns ms : List ℕ) → n ∷ ns ≡ m ∷ ms → m ≡ n
first_is n m ns ms e = cc

rest_is : (n m : ℕ) (ns ms : List ℕ) → n ∷ ns ≡ m ∷ ms → ns ≡ ms
rest_is n m ns ms e = cc

none_first : (n : ℕ) (ns : List ℕ) → n ∷ ns ≡ [] → ⊥
none_first n ns e = absurd cc

-- the line with number m leaves: it is the first with these ends, the rest are kept, and all others
pub record Leaves (n : ℕ) (made : List (Option Ends)) (s : Ends) (m : ℕ) (rest : List ℕ) : Type 0 where
  pub place : ℕ
  pub is : m ≡ n + place
  pub inside : place < length made
  pub glued : (next : ℕ) → glue_line (lines_from n made) next (s.from, s.to) ≡ lines_from n (set made place None)
  pub after : (next : ℕ) → next_after (lines_from n made) next (s.from, s.to) ≡ next
  pub its : numbers_of (lines_from n (set made place None)) s ≡ rest
  pub others : (t : Ends) → same s t ≡ false → numbers_of (lines_from n (set made place None)) t ≡ numbers_of (lines_from n made) t

pub leaves : (n : ℕ) (made : List (Option Ends)) (s : Ends) (m : ℕ) (rest : List ℕ) → numbers_of (lines_from n made) s ≡ m ∷ rest → Leaves n made s m rest
leaves n [] s m rest e = absurd cc
leaves n (None ∷ made) s m rest e = let l = leaves (n + 1) made s m rest e in record {
  place = suc l.place;
  is = l.is ∙ later n l.place;
  inside = omega (arith, l.inside);
  glued = l.glued;
  after = l.after;
  its = l.its;
  others = l.others;
}
leaves n (Some u ∷ made) s m rest e = by (same u s) (leaves (n + 1) made s m rest) refl
  where
    by : (b : Bool) → (numbers_of (lines_from (n + 1) made) s ≡ m ∷ rest → Leaves (n + 1) made s m rest) → same u s ≡ b → Leaves n (Some u ∷ made) s m rest
    by true go j = let h : n ∷ numbers_of (lines_from (n + 1) made) s ≡ m ∷ rest = sym (ap (λ c. cond c (n ∷ numbers_of (lines_from (n + 1) made) s) (numbers_of (lines_from (n + 1) made) s)) j) ∙ e in record {
      place = zero;
      is = first_is n m (numbers_of (lines_from (n + 1) made) s) rest h ∙ plain n;
      inside = omega arith;
      glued = λ next. ap (λ c. elim c [ true ↦ lines_from (n + 1) made | false ↦ (n, u.from, u.to) ∷ glue_line (lines_from (n + 1) made) next (s.from, s.to) ]) j;
      after = λ next. ap (λ c. cond (c || list_any (λ line. does_join line (s.from, s.to)) (lines_from (n + 1) made)) next (next + 1)) j;
      its = rest_is n m (numbers_of (lines_from (n + 1) made) s) rest h;
      others = λ t other. sym (ap (λ c. cond c (n ∷ numbers_of (lines_from (n + 1) made) t) (numbers_of (lines_from (n + 1) made) t)) (subst (λ (v : Ends). same v t ≡ false) (sym (same_sound u s j)) other));
    }
    by false go j = let l = go (sym (ap (λ c. cond c (n ∷ numbers_of (lines_from (n + 1) made) s) (numbers_of (lines_from (n + 1) made) s)) j) ∙ e) in record {
      place = suc l.place;
      is = l.is ∙ later n l.place;
      inside = omega (arith, l.inside);
      glued = λ next. ap (λ c. elim c [ true ↦ lines_from (n + 1) made | false ↦ (n, u.from, u.to) ∷ glue_line (lines_from (n + 1) made) next (s.from, s.to) ]) j ∙ ap (λ ls. (n, u.from, u.to) ∷ ls) (l.glued next);
      after = λ next. ap (λ c. cond (c || list_any (λ line. does_join line (s.from, s.to)) (lines_from (n + 1) made)) next (next + 1)) j ∙ l.after next;
      its = ap (λ c. cond c (n ∷ numbers_of (lines_from (n + 1) (set made l.place None)) s) (numbers_of (lines_from (n + 1) (set made l.place None)) s)) j ∙ l.its;
      others = λ t other. ap (λ ns. cond (same u t) (n ∷ ns) ns) (l.others t other);
    }

-- the numbers that are kept once the line has left
pub kept_less : (made : List (Option Ends)) (s : Ends) (m : ℕ) (before after : Ends → List ℕ) → AreKept made before → (l : Leaves 1 made s m (after s)) → ((t : Ends) → same s t ≡ false → after t ≡ before t) → AreKept (set made l.place None) after
kept_less made s m before after kept l others t = by (same s t) refl
  where
    by : (b : Bool) → same s t ≡ b → after t ≡ numbers_of (lines_from 1 (set made l.place None)) t
    by true e = subst (λ (u : Ends). after u ≡ numbers_of (lines_from 1 (set made l.place None)) u) (same_sound s t e) (sym l.its)
    by false e = others t e ∙ kept t ∙ sym (l.others t e)

-- ---- no line has these ends
pub none_leaves : (lines : List (ℕ × ℕ × ℕ)) (next : ℕ) (s : Ends) → numbers_of lines s ≡ [] → (glue_line lines next (s.from, s.to) ≡ lines ++ (next, s.to, s.from) ∷ []) × (next_after lines next (s.from, s.to) ≡ next + 1)
none_leaves [] next s e = (refl, refl)
none_leaves (line ∷ lines) next s e = by (does_join line (s.from, s.to)) (none_leaves lines next s) refl
  where
    by : (b : Bool) → (numbers_of lines s ≡ [] → (glue_line lines next (s.from, s.to) ≡ lines ++ (next, s.to, s.from) ∷ []) × (next_after lines next (s.from, s.to) ≡ next + 1)) → does_join line (s.from, s.to) ≡ b → (glue_line (line ∷ lines) next (s.from, s.to) ≡ (line ∷ lines) ++ (next, s.to, s.from) ∷ []) × (next_after (line ∷ lines) next (s.from, s.to) ≡ next + 1)
    by true go j = absurd (none_first line.0 (numbers_of lines s) (sym (ap (λ c. cond c (line.0 ∷ numbers_of lines s) (numbers_of lines s)) j) ∙ e))
    by false go j = let l = go (sym (ap (λ c. cond c (line.0 ∷ numbers_of lines s) (numbers_of lines s)) j) ∙ e) in (
      ap (λ c. elim c [ true ↦ lines | false ↦ line ∷ glue_line lines next (s.from, s.to) ]) j ∙ ap (λ ls. line ∷ ls) l.0,
      ap (λ c. cond (c || list_any (λ other. does_join other (s.from, s.to)) lines) next (next + 1)) j ∙ l.1,
    )

-- ---- the lines as far as a place of the table
lines_past : (n : ℕ) (made : List (Option Ends)) → lines_from n (made ++ None ∷ []) ≡ lines_from n made
lines_past n [] = refl
lines_past n (None ∷ made) = lines_past (n + 1) made
lines_past n (Some t ∷ made) = ap (λ ls. (n, t.from, t.to) ∷ ls) (lines_past (n + 1) made)

pub none_step : (made : List (Option Ends)) (k : ℕ) (d : Option Ends) → k < length made → get_or made k d ≡ None → lines_from 1 (take (k + 1) made) ≡ lines_from 1 (take k made)
none_step made k d l e = ap (lines_from 1) (take_more made k d l) ∙ ap (λ m. lines_from 1 (take k made ++ m ∷ [])) e ∙ lines_past 1 (take k made)

pub some_step : (made : List (Option Ends)) (k : ℕ) (d : Option Ends) (t : Ends) → k < length made → get_or made k d ≡ Some t → lines_from 1 (take k made) ++ (k + 1, t.from, t.to) ∷ [] ≡ lines_from 1 (take (k + 1) made)
some_step made k d t l e = sym (ap (lines_from 1) (take_more made k d l) ∙ ap (λ m. lines_from 1 (take k made ++ m ∷ [])) e ∙ lines_push 1 (take k made) t
    ∙ ap (λ (m : ℕ). lines_from 1 (take k made) ++ (m, t.from, t.to) ∷ []) (ap (λ (m : ℕ). 1 + m) (length-take-le k made (omega (arith, l))) ∙ other k))
  where
    other : (k : ℕ) → 1 + k ≡ k + 1
    other k = omega arith
