-- Points listed by first occurrence: what is among them, and that a listing of such a list changes nothing.
use Rattle.std.proofs.Common.{◌≡◌, Bool, true, false, ◌||◌, cond, List, [], ◌∷◌, ◌++◌, filter, fold, refl, ap, sym, ◌∙◌, append_assoc, true≢false, if◌then◌else◌}
use Rattle.std.proofs.Math.Bool.{or_assoc, or-false}
use Rattle.std.specs.Ordering.{int_eq}
use Rattle.std.proofs.lemmas.Bool.Decides.{Decides-int_eq}
use Rattle.std.proofs.lemmas.List.Folds.{list_any-append}
use Rattle.grid_geom.specs.declared.Point.{Point}
use Rattle.grid_geom.specs.Closed.{same_point}
use Rattle.grid_geom.specs.Winding.{and}
use Rattle.mesh_run.specs.Numbering.{by_first_occurrence, is_among, with_point}

and_first : (a b : Bool) → and a b ≡ true → a ≡ true
and_first true b h = refl
and_first false b h = h

and_second : (a b : Bool) → and a b ≡ true → b ≡ true
and_second true b h = h
and_second false b h = absurd (true≢false (sym h))

-- points that the test calls the same are the same
pub same_place : (p q : Point) → same_point p q ≡ true → p ≡ q
same_place p q h =
    let x_is : p.x ≡ q.x = (Decides-int_eq p.x q.x).0 (and_first (int_eq p.x q.x) (int_eq p.y q.y) h) in
    let y_is : p.y ≡ q.y = (Decides-int_eq p.y q.y).0 (and_second (int_eq p.x q.x) (int_eq p.y q.y) h) in
    λ i. record { x = x_is i; y = y_is i }

both_true : (a b : Bool) → a ≡ true → b ≡ true → and a b ≡ true
both_true a b h k = ap (λ (c : Bool). and c b) h ∙ k

pub same_itself : (p : Point) → same_point p p ≡ true
same_itself p = both_true (int_eq p.x p.x) (int_eq p.y p.y) ((Decides-int_eq p.x p.x).1 refl) ((Decides-int_eq p.y p.y).1 refl)

or_left : (a b : Bool) → (a || b) ≡ false → a ≡ false
or_left true b h = absurd (true≢false h)
or_left false b h = refl

or_right : (a b : Bool) → (a || b) ≡ false → b ≡ false
or_right true b h = absurd (true≢false h)
or_right false b h = h

neither : (a b : Bool) → a ≡ false → b ≡ false → (a || b) ≡ false
neither a b h k = ap (λ (c : Bool). c || b) h ∙ k

taken_in : (a b : Bool) → (b ≡ true → a ≡ true) → a ≡ (a || b)
taken_in true b h = refl
taken_in false true h = h refl
taken_in false false h = refl

-- among the points with one at their end are those among the points, and that one
pub among_end : (ps : List Point) (p x : Point) → is_among (ps ++ p ∷ []) x ≡ (is_among ps x || same_point x p)
among_end ps p x = list_any-append (same_point x) ps (p ∷ []) ∙ ap (λ (b : Bool). is_among ps x || b) (or-false (same_point x p))

pub among_with : (ps : List Point) (p x : Point) → is_among (with_point ps p) x ≡ (is_among ps x || same_point x p)
among_with ps p x = by (is_among ps p) refl
  where
    by : (b : Bool) → is_among ps p ≡ b → is_among (if b then ps else ps ++ p ∷ []) x ≡ (is_among ps x || same_point x p)
    by true e = taken_in (is_among ps x) (same_point x p) (λ h. ap (is_among ps) (same_place x p h) ∙ e)
    by false e = among_end ps p x

among_all : (acc ps : List Point) (x : Point) → is_among (fold with_point acc ps) x ≡ (is_among acc x || is_among ps x)
among_all acc [] x = sym (or-false (is_among acc x))
among_all acc (p ∷ ps) x =
    among_all (with_point acc p) ps x ∙ ap (λ (b : Bool). b || is_among ps x) (among_with acc p x) ∙ or_assoc (is_among acc x) (same_point x p) (is_among ps x)

-- what is among the points is among them by first occurrence
pub among_first : (ps : List Point) → is_among (by_first_occurrence ps) ≡ is_among ps
among_first ps = λ i x. among_all [] ps x i

-- none of the points is among those before it or in `done`
abbrev pub IsFresh : List Point → List Point → Type 0
IsFresh done [] = Unit {0}
IsFresh done (p ∷ ps) = (is_among done p ≡ false) × IsFresh (done ++ p ∷ []) ps

-- what a listing adds to `done`
pub record Adds (done ps : List Point) : Type 0 where
  pub added : List Point
  pub listed : fold with_point done ps ≡ done ++ added
  pub fresh : IsFresh done added

append_nil : (ps : List Point) → ps ≡ ps ++ []
append_nil [] = refl
append_nil (p ∷ ps) = ap (λ (qs : List Point). p ∷ qs) (append_nil ps)

pub adds : (done ps : List Point) → Adds done ps
adds done [] = record { added = []; listed = append_nil done; fresh = tt }
adds done (p ∷ ps) = by (is_among done p) refl (adds done ps) (adds (done ++ p ∷ []) ps)
  where
    by : (b : Bool) → is_among done p ≡ b → Adds done ps → Adds (done ++ p ∷ []) ps → Adds done (p ∷ ps)
    by true e rest more = record {
      added = rest.added;
      listed = ap (λ (b : Bool). fold with_point (if b then done else done ++ p ∷ []) ps) e ∙ rest.listed;
      fresh = rest.fresh;
    }
    by false e rest more = record {
      added = p ∷ more.added;
      listed = ap (λ (b : Bool). fold with_point (if b then done else done ++ p ∷ []) ps) e ∙ more.listed ∙ append_assoc done (p ∷ []) more.added;
      fresh = (e, more.fresh);
    }

fresh_added : (done ps : List Point) → IsFresh done ps → fold with_point done ps ≡ done ++ ps
fresh_added done [] h = append_nil done
fresh_added done (p ∷ ps) h =
    ap (λ (b : Bool). fold with_point (if b then done else done ++ p ∷ []) ps) h.0
    ∙ fresh_added (done ++ p ∷ []) ps h.1 ∙ append_assoc done (p ∷ []) ps

fresh_filter : (test : Point → Bool) (done few ps : List Point) → ((x : Point) → is_among done x ≡ false → is_among few x ≡ false) → IsFresh done ps → IsFresh few (filter test ps)
fresh_filter test done few [] fewer h = tt
fresh_filter test done few (p ∷ ps) fewer h =
    by (test p)
    (fresh_filter test (done ++ p ∷ []) (few ++ p ∷ []) ps
    (λ x k. let both = sym (among_end done p x) ∙ k in
    among_end few p x ∙ neither (is_among few x) (same_point x p) (fewer x (or_left (is_among done x) (same_point x p) both)) (or_right (is_among done x) (same_point x p) both))
    h.1)
    (fresh_filter test (done ++ p ∷ []) few ps (λ x k. fewer x (or_left (is_among done x) (same_point x p) (sym (among_end done p x) ∙ k))) h.1)
  where
    by : (b : Bool) → IsFresh (few ++ p ∷ []) (filter test ps) → IsFresh few (filter test ps) → IsFresh few (cond b (p ∷ filter test ps) (filter test ps))
    by true more rest = (fewer p h.0, more)
    by false more rest = rest

-- some of the points by first occurrence, listed by first occurrence, are the same list
pub first_again : (ps : List Point) (test : Point → Bool) → by_first_occurrence (filter test (by_first_occurrence ps)) ≡ filter test (by_first_occurrence ps)
first_again ps test =
    let all = adds [] ps in
    ap (λ (qs : List Point). by_first_occurrence (filter test qs)) all.listed
    ∙ fresh_added [] (filter test all.added) (fresh_filter test [] [] all.added (λ x k. k) all.fresh)
    ∙ sym (ap (filter test) all.listed)
