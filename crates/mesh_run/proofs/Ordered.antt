-- Points by first occurrence stand in the order of their first occurrences.
use Rattle.std.proofs.Common.{◌≡◌, ◌+◌, ◌<◌, ◌≤◌, Bool, true, false, not, ◌||◌, cond, List, [], ◌∷◌, ◌++◌, fold, length, refl, ap, sym, ◌∙◌, subst, true≢false, arith}
use Rattle.std.specs.List.{list_any, position_or_len}
use Rattle.grid_geom.specs.declared.Point.{Point}
use Rattle.grid_geom.specs.Closed.{same_point}
use Rattle.mesh_run.specs.Numbering.{by_first_occurrence, is_among, number_in, with_point}
use Rattle.mesh_run.proofs.Listed.{among_with, adds}

first_in : (t : Point → Bool) (xs ys : List Point) → list_any t xs ≡ true → position_or_len t (xs ++ ys) < length xs
first_in t [] ys h = absurd (true≢false (sym h))
first_in t (x ∷ xs) ys h = by (t x) h (first_in t xs ys)
  where
    by : (b : Bool) → (b || list_any t xs) ≡ true → (list_any t xs ≡ true → position_or_len t (xs ++ ys) < length xs) → cond (not b) (1 + position_or_len t (xs ++ ys)) 0 < length (x ∷ xs)
    by true k rest = omega arith
    by false k rest = let r = rest k in omega arith

not_in : (t : Point → Bool) (xs ys : List Point) → list_any t xs ≡ false → length xs ≤ position_or_len t (xs ++ ys)
not_in t [] ys h = omega arith
not_in t (x ∷ xs) ys h = by (t x) h (not_in t xs ys)
  where
    by : (b : Bool) → (b || list_any t xs) ≡ false → (list_any t xs ≡ false → length xs ≤ position_or_len t (xs ++ ys)) → length (x ∷ xs) ≤ cond (not b) (1 + position_or_len t (xs ++ ys)) 0
    by true k rest = absurd (true≢false k)
    by false k rest = let r = rest k in omega arith

-- a point of `done` stands before one that isn't there
before_added : (done ps : List Point) (p q : Point) → is_among done p ≡ true → is_among done q ≡ false
    → position_or_len (same_point p) (fold with_point done ps) < position_or_len (same_point q) (fold with_point done ps)
before_added done ps p q there absent =
    let all = adds done ps in
    let p_in = first_in (same_point p) done all.added there in
    let q_out = not_in (same_point q) done all.added absent in
    let both : position_or_len (same_point p) (done ++ all.added) < position_or_len (same_point q) (done ++ all.added) = omega arith in
    let P : List Point → Type 0 = λ l. position_or_len (same_point p) l < position_or_len (same_point q) l in
    subst P (sym all.listed) both

neither : (a b : Bool) → a ≡ false → b ≡ false → (a || b) ≡ false
neither a b h k = ap (λ (c : Bool). c || b) h ∙ k

or_second : (a b : Bool) → b ≡ true → (a || b) ≡ true
or_second true b h = refl
or_second false b h = h

ordered_from : (done ps : List Point) (p q : Point) → is_among done p ≡ false → is_among done q ≡ false
    → position_or_len (same_point p) ps < position_or_len (same_point q) ps
    → position_or_len (same_point p) (fold with_point done ps) < position_or_len (same_point q) (fold with_point done ps)
ordered_from done [] p q p_out q_out h = absurd (omega arith)
ordered_from done (x ∷ xs) p q p_out q_out h =
    by (same_point p x) (same_point q x) refl refl h (ordered_from (with_point done x) xs p q)
  where
    by : (b c : Bool) → same_point p x ≡ b → same_point q x ≡ c
        → cond (not b) (1 + position_or_len (same_point p) xs) 0 < cond (not c) (1 + position_or_len (same_point q) xs) 0
        → (is_among (with_point done x) p ≡ false → is_among (with_point done x) q ≡ false → position_or_len (same_point p) xs < position_or_len (same_point q) xs
        → position_or_len (same_point p) (fold with_point (with_point done x) xs) < position_or_len (same_point q) (fold with_point (with_point done x) xs))
        → position_or_len (same_point p) (fold with_point (with_point done x) xs) < position_or_len (same_point q) (fold with_point (with_point done x) xs)
    by true true p_is q_is k rest = absurd (omega arith)
    by false true p_is q_is k rest = absurd (omega arith)
    by true false p_is q_is k rest =
        before_added (with_point done x) xs p q
        (among_with done x p ∙ or_second (is_among done p) (same_point p x) p_is)
        (among_with done x q ∙ neither (is_among done q) (same_point q x) q_out q_is)
    by false false p_is q_is k rest =
        rest (among_with done x p ∙ neither (is_among done p) (same_point p x) p_out p_is)
        (among_with done x q ∙ neither (is_among done q) (same_point q x) q_out q_is)
        (omega arith)

-- of two points, the one that occurs first has the smaller number
pub first_before : (ps : List Point) (p q : Point) → number_in ps p < number_in ps q → number_in (by_first_occurrence ps) p < number_in (by_first_occurrence ps) q
first_before ps p q h =
    let earlier : position_or_len (same_point p) ps < position_or_len (same_point q) ps = omega arith in
    let kept = ordered_from [] ps p q refl refl earlier in
    omega arith
