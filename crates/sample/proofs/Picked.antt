-- The boundary of a domain, where of a numbered list of segments two have it on a side, or none.
use Rattle.std.proofs.Common.{◌≡◌, ◌≢◌, ℕ, zero, suc, ◌+◌, ◌-◌, ◌<◌, ◌≤◌, ◌==◌, Bool, true, false, List, [], ◌∷◌, ◌++◌, map, sym, ◌∙◌, ap, refl, arith}
use Rattle.std.specs.List.{range_with_len}
use Rattle.std.proofs.lemmas.List.{map-append, append-nil}
use Rattle.grid_geom.specs.declared.Point.{Point}
use Rattle.grid_geom.specs.declared.Edge.{Edge}
use Rattle.geom_check.specs.declared.kinds.Segment.{Segment}
use Rattle.geom_check.specs.Boundary.{edge_of, with_edge, boundary, back}

-- the domain is on no side of the segment
pub record IsBeside (domain : ℕ) (s : Segment) : Type 0 where
  pub left : s.left ≢ domain
  pub right : s.right ≢ domain

with_edge_joined : (b : Bool) (e : Edge) (xs ys : List Edge) → with_edge b e (xs ++ ys) ≡ with_edge b e xs ++ ys
with_edge_joined true e xs ys = refl
with_edge_joined false e xs ys = refl

pub boundary_joined : (points : List Point) (domain : ℕ) (xs ys : List Segment) → boundary points domain (xs ++ ys) ≡ boundary points domain xs ++ boundary points domain ys
boundary_joined points domain [] ys = refl
boundary_joined points domain (x ∷ xs) ys =
    let e : Edge = edge_of points x in
    ap (λ (es : List Edge). with_edge (x.left == domain) e (with_edge (x.right == domain) (back e) es)) (boundary_joined points domain xs ys)
    ∙ ap (λ (es : List Edge). with_edge (x.left == domain) e es) (with_edge_joined (x.right == domain) (back e) (boundary points domain xs) (boundary points domain ys))
    ∙ with_edge_joined (x.left == domain) e (with_edge (x.right == domain) (back e) (boundary points domain xs)) (boundary points domain ys)

no_number : (m n : ℕ) → m ≢ n → (m == n) ≡ false
no_number m n e = grind arith

one_number : (m n : ℕ) → m ≡ n → (m == n) ≡ true
one_number m n e = grind arith

-- what one segment adds
adds : (points : List Point) (domain : ℕ) (s : Segment) (es : List Edge) (l r : Bool) → (s.left == domain) ≡ l → (s.right == domain) ≡ r → with_edge (s.left == domain) (edge_of points s) (with_edge (s.right == domain) (back (edge_of points s)) es) ≡ with_edge l (edge_of points s) (with_edge r (back (edge_of points s)) es)
adds points domain s es l r e f =
    ap (λ (b : Bool). with_edge b (edge_of points s) (with_edge (s.right == domain) (back (edge_of points s)) es)) e
    ∙ ap (λ (b : Bool). with_edge l (edge_of points s) (with_edge b (back (edge_of points s)) es)) f

pub adds_left : (points : List Point) (domain : ℕ) (s : Segment) → s.left ≡ domain → s.right ≢ domain → boundary points domain (s ∷ []) ≡ edge_of points s ∷ []
adds_left points domain s e f = adds points domain s [] true false (one_number s.left domain e) (no_number s.right domain f)

pub adds_right : (points : List Point) (domain : ℕ) (s : Segment) → s.left ≢ domain → s.right ≡ domain → boundary points domain (s ∷ []) ≡ back (edge_of points s) ∷ []
adds_right points domain s e f = adds points domain s [] false true (no_number s.left domain e) (one_number s.right domain f)

-- ---- a numbered list
pub adds_none : (points : List Point) (domain : ℕ) (f : ℕ → Segment) (a m : ℕ) → ((k : ℕ) → a ≤ k → k < a + m → IsBeside domain (f k)) → boundary points domain (map f (range_with_len a m)) ≡ []
adds_none points domain f a zero none = refl
adds_none points domain f a (suc m) none =
    let here : IsBeside domain (f a) = none a (omega arith) (omega arith) in
    adds points domain (f a) (boundary points domain (map f (range_with_len (a + 1) m))) false false (no_number (f a).left domain here.left) (no_number (f a).right domain here.right)
    ∙ adds_none points domain f (a + 1) m (λ k h j. none k (omega arith) (omega arith))

range_joined : (a m l : ℕ) → range_with_len a (m + l) ≡ range_with_len a m ++ range_with_len (a + m) l
range_joined a zero l = ap (range_with_len a) (omega arith) ∙ ap (λ (z : ℕ). range_with_len z l) (omega arith)
range_joined a (suc m) l =
    let longer : suc m + l ≡ suc (m + l) = omega arith in
    let next : a + 1 + m ≡ a + suc m = omega arith in
    ap (range_with_len a) longer ∙ ap (λ (ks : List ℕ). a ∷ ks) (range_joined (a + 1) m l) ∙ ap (λ (z : ℕ). a ∷ (range_with_len (a + 1) m ++ range_with_len z l)) next

-- the first segment with the domain on a side comes after x others
first_adds : (points : List Point) (domain : ℕ) (f : ℕ → Segment) (a x y k : ℕ) → k ≡ a + x → ((j : ℕ) → a ≤ j → j < a + x → IsBeside domain (f j)) →
    boundary points domain (map f (range_with_len a (x + suc y))) ≡ boundary points domain (f k ∷ []) ++ boundary points domain (map f (range_with_len (k + 1) y))
first_adds points domain f a x y k e none =
    let range : range_with_len a (x + suc y) ≡ range_with_len a x ++ k ∷ range_with_len (k + 1) y =
    range_joined a x (suc y) ∙ ap (λ (z : ℕ). range_with_len a x ++ range_with_len z (suc y)) (sym e) in
    ap (λ (ks : List ℕ). boundary points domain (map f ks)) range
    ∙ ap (boundary points domain) (map-append f (range_with_len a x) (k ∷ range_with_len (k + 1) y))
    ∙ boundary_joined points domain (map f (range_with_len a x)) (f k ∷ map f (range_with_len (k + 1) y))
    ∙ ap (λ (es : List Edge). es ++ boundary points domain (f k ∷ map f (range_with_len (k + 1) y))) (adds_none points domain f a x none)
    ∙ boundary_joined points domain (f k ∷ []) (map f (range_with_len (k + 1) y))

-- two segments alone have the domain on a side
pub two_add : (points : List Point) (domain : ℕ) (f : ℕ → Segment) (count k l : ℕ) → k < l → l < count → ((j : ℕ) → j < count → j ≢ k → j ≢ l → IsBeside domain (f j)) →
    boundary points domain (map f (range_with_len 0 count)) ≡ boundary points domain (f k ∷ []) ++ boundary points domain (f l ∷ [])
two_add points domain f count k l h j none = split (l - (k + 1)) (count - (l + 1)) (omega arith) (omega arith)
  where
    split : (y z : ℕ) → l ≡ k + 1 + y → count ≡ k + suc (y + suc z) → boundary points domain (map f (range_with_len 0 count)) ≡ boundary points domain (f k ∷ []) ++ boundary points domain (f l ∷ [])
    split y z e g =
        ap (λ (m : ℕ). boundary points domain (map f (range_with_len 0 m))) g
        ∙ first_adds points domain f 0 k (y + suc z) k (omega arith) (λ i a b. none i (omega arith) (λ c. omega arith) (λ c. omega arith))
        ∙ ap (λ (es : List Edge). boundary points domain (f k ∷ []) ++ es) (first_adds points domain f (k + 1) y z l e (λ i a b. none i (omega arith) (λ c. omega arith) (λ c. omega arith)))
        ∙ ap (λ (es : List Edge). boundary points domain (f k ∷ []) ++ (boundary points domain (f l ∷ []) ++ es)) (adds_none points domain f (l + 1) z (λ i a b. none i (omega arith) (λ c. omega arith) (λ c. omega arith)))
        ∙ ap (λ (es : List Edge). boundary points domain (f k ∷ []) ++ es) (append-nil (boundary points domain (f l ∷ [])))
