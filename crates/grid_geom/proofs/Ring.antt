-- Identities of whole numbers by computation. `ring ρ e f refl` proves `eval ρ e ≡ eval ρ f` wherever e and f are the same polynomial of the numbers ρ.
-- e and f are written in the data type E: `var i` is the i-th number of ρ, `num c` the number c, and ⊕ ⊖ ⊗ are sum, difference and product.
-- `normal_form` multiplies out into a list of terms, each a coefficient and a sorted list of variables; `refl` computes that the difference has none left.
-- Stands on Ints.
use lib.IntN.{ℤ, pos, negsuc, ◌+ℤ◌, ◌-ℤ◌, ◌*ℤ◌}
use Prim.Native.Nat.{ℕ, zero, suc}
use mathlib.Core.Path.{◌≡◌, refl, sym, ap, ◌∙◌, subst}
use mathlib.Core.Bool.{Bool, true, false}
use mathlib.Core.List.{List, [], ◌∷◌}
use native.Mathlib.Omega.{arith}
use lib.Dec.{T, ltb}
use Rattle.std.proofs.lemmas.Int.{ints}
use Rattle.grid_geom.proofs.Ints.{mul_add, mul_assoc, add_assoc, mul_comm, one_mul}

infixl 6 ◌⊕◌ ◌⊖◌
infixl 7 ◌⊗◌
pub data E : Type 0 where
  var : ℕ → E
  num : ℤ → E
  ◌⊕◌ : E → E → E
  ◌⊖◌ : E → E → E
  ◌⊗◌ : E → E → E

abbrev pub at : List ℤ → ℕ → ℤ
at [] i = pos 0
at (x ∷ ρ) zero = x
at (x ∷ ρ) (suc i) = at ρ i

abbrev pub eval : List ℤ → E → ℤ
eval ρ (var i) = at ρ i
eval ρ (num c) = c
eval ρ (a ⊕ b) = eval ρ a +ℤ eval ρ b
eval ρ (a ⊖ b) = eval ρ a -ℤ eval ρ b
eval ρ (a ⊗ b) = eval ρ a *ℤ eval ρ b

-- ---- normal forms
pub record Term : Type 0 where
  pub coefficient : ℤ
  pub factors : List ℕ

abbrev pub same_number : ℕ → ℕ → Bool
same_number zero zero = true
same_number zero (suc n) = false
same_number (suc m) zero = false
same_number (suc m) (suc n) = same_number m n

same_number_is : (m n : ℕ) → same_number m n ≡ true → m ≡ n
same_number_is zero zero e = refl
same_number_is zero (suc n) e = absurd (subst (λ (b : Bool). T b) (sym e) tt)
same_number_is (suc m) zero e = absurd (subst (λ (b : Bool). T b) (sym e) tt)
same_number_is (suc m) (suc n) e = ap suc (same_number_is m n e)

abbrev pub both : Bool → Bool → Bool
both true b = b
both false b = false

both_first : (a b : Bool) → both a b ≡ true → a ≡ true
both_first true b e = refl
both_first false b e = e

both_second : (a b : Bool) → both a b ≡ true → b ≡ true
both_second true b e = e
both_second false b e = absurd (subst (λ (b : Bool). T b) (sym e) tt)

abbrev pub same_product : List ℕ → List ℕ → Bool
same_product [] [] = true
same_product [] (j ∷ n) = false
same_product (i ∷ m) [] = false
same_product (i ∷ m) (j ∷ n) = both (same_number i j) (same_product m n)

same_product_is : (m n : List ℕ) → same_product m n ≡ true → m ≡ n
same_product_is [] [] e = refl
same_product_is [] (j ∷ n) e = absurd (subst (λ (b : Bool). T b) (sym e) tt)
same_product_is (i ∷ m) [] e = absurd (subst (λ (b : Bool). T b) (sym e) tt)
same_product_is (i ∷ m) (j ∷ n) e = ap (λ (x : ℕ). x ∷ m) (same_number_is i j (both_first (same_number i j) (same_product m n) e)) ∙ ap (λ (l : List ℕ). j ∷ l) (same_product_is m n (both_second (same_number i j) (same_product m n) e))

abbrev pub eval_product : List ℤ → List ℕ → ℤ
eval_product ρ [] = pos 1
eval_product ρ (i ∷ m) = at ρ i *ℤ eval_product ρ m

abbrev pub eval_sum : List ℤ → List Term → ℤ
eval_sum ρ [] = pos 0
eval_sum ρ (t ∷ p) = t.coefficient *ℤ eval_product ρ t.factors +ℤ eval_sum ρ p

abbrev pub insert_factor : ℕ → List ℕ → List ℕ
insert_factor i [] = i ∷ []
insert_factor i (j ∷ m) = elim (ltb j i) [ true ↦ j ∷ insert_factor i m | false ↦ i ∷ (j ∷ m) ]

abbrev pub multiply_products : List ℕ → List ℕ → List ℕ
multiply_products [] n = n
multiply_products (i ∷ m) n = insert_factor i (multiply_products m n)

exchange : (a b c : ℤ) → a *ℤ (b *ℤ c) ≡ b *ℤ (a *ℤ c)
exchange a b c = sym (mul_assoc a b c) ∙ ap (λ (z : ℤ). z *ℤ c) (mul_comm a b) ∙ mul_assoc b a c

insert_is : (ρ : List ℤ) (i : ℕ) (m : List ℕ) → eval_product ρ (insert_factor i m) ≡ at ρ i *ℤ eval_product ρ m
insert_is ρ i [] = refl
insert_is ρ i (j ∷ m) = elim (ltb j i) as (λ (b : Bool). eval_product ρ (elim b [ true ↦ j ∷ insert_factor i m | false ↦ i ∷ (j ∷ m) ]) ≡ at ρ i *ℤ (at ρ j *ℤ eval_product ρ m))
    [ true ↦ ap (λ (z : ℤ). at ρ j *ℤ z) (insert_is ρ i m) ∙ exchange (at ρ j) (at ρ i) (eval_product ρ m) | false ↦ refl ]

multiply_products_is : (ρ : List ℤ) (m n : List ℕ) → eval_product ρ (multiply_products m n) ≡ eval_product ρ m *ℤ eval_product ρ n
multiply_products_is ρ [] n = sym (one_mul (eval_product ρ n))
multiply_products_is ρ (i ∷ m) n = insert_is ρ i (multiply_products m n) ∙ ap (λ (z : ℤ). at ρ i *ℤ z) (multiply_products_is ρ m n) ∙ sym (mul_assoc (at ρ i) (eval_product ρ m) (eval_product ρ n))

abbrev pub add_term : ℤ → List ℕ → List Term → List Term
add_term c m [] = record { coefficient = c; factors = m } ∷ []
add_term c m (t ∷ p) = elim (same_product m t.factors) [ true ↦ record { coefficient = c +ℤ t.coefficient; factors = t.factors } ∷ p | false ↦ t ∷ add_term c m p ]

add_same : (c d M P : ℤ) → (c +ℤ d) *ℤ M +ℤ P ≡ c *ℤ M +ℤ (d *ℤ M +ℤ P)
add_same c d M P = ap (λ (z : ℤ). z +ℤ P) (mul_add c d M) ∙ add_assoc (c *ℤ M) (d *ℤ M) P

add_swap : (a b c : ℤ) → a +ℤ (b +ℤ c) ≡ b +ℤ (a +ℤ c)
add_swap a b c = omega (arith, ints)

add_term_is : (ρ : List ℤ) (c : ℤ) (m : List ℕ) (p : List Term) → eval_sum ρ (add_term c m p) ≡ c *ℤ eval_product ρ m +ℤ eval_sum ρ p
add_term_is ρ c m [] = refl
add_term_is ρ c m (t ∷ p) = (elim (same_product m t.factors) as (λ (b : Bool). same_product m t.factors ≡ b → eval_sum ρ (elim b [ true ↦ record { coefficient = c +ℤ t.coefficient; factors = t.factors } ∷ p | false ↦ t ∷ add_term c m p ]) ≡ c *ℤ eval_product ρ m +ℤ (t.coefficient *ℤ eval_product ρ t.factors +ℤ eval_sum ρ p)) [
  | true ↦ λ e. add_same c t.coefficient (eval_product ρ t.factors) (eval_sum ρ p) ∙ ap (λ (l : List ℕ). c *ℤ eval_product ρ l +ℤ (t.coefficient *ℤ eval_product ρ t.factors +ℤ eval_sum ρ p)) (sym (same_product_is m t.factors e))
  | false ↦ λ e. ap (λ (z : ℤ). t.coefficient *ℤ eval_product ρ t.factors +ℤ z) (add_term_is ρ c m p) ∙ add_swap (t.coefficient *ℤ eval_product ρ t.factors) (c *ℤ eval_product ρ m) (eval_sum ρ p)
]) refl

abbrev pub add_sums : List Term → List Term → List Term
add_sums [] q = q
add_sums (t ∷ p) q = add_term t.coefficient t.factors (add_sums p q)

add_sums_is : (ρ : List ℤ) (p q : List Term) → eval_sum ρ (add_sums p q) ≡ eval_sum ρ p +ℤ eval_sum ρ q
add_sums_is ρ [] q = omega (arith, ints)
add_sums_is ρ (t ∷ p) q = add_term_is ρ t.coefficient t.factors (add_sums p q) ∙ ap (λ (z : ℤ). t.coefficient *ℤ eval_product ρ t.factors +ℤ z) (add_sums_is ρ p q) ∙ sym (add_assoc (t.coefficient *ℤ eval_product ρ t.factors) (eval_sum ρ p) (eval_sum ρ q))

-- c times the monomial m times p, added to q
abbrev pub add_multiple : ℤ → List ℕ → List Term → List Term → List Term
add_multiple c m [] q = q
add_multiple c m (t ∷ p) q = add_term (c *ℤ t.coefficient) (multiply_products m t.factors) (add_multiple c m p q)

exchange_inner : (a b M N : ℤ) → (a *ℤ b) *ℤ (M *ℤ N) ≡ (a *ℤ M) *ℤ (b *ℤ N)
exchange_inner a b M N = mul_assoc a b (M *ℤ N) ∙ ap (λ (z : ℤ). a *ℤ z) (exchange b M N) ∙ sym (mul_assoc a M (b *ℤ N))

mul_add_right : (a b c : ℤ) → c *ℤ (a +ℤ b) ≡ c *ℤ a +ℤ c *ℤ b
mul_add_right a b c = mul_comm c (a +ℤ b) ∙ mul_add a b c ∙ ap (λ (z : ℤ). z +ℤ b *ℤ c) (mul_comm a c) ∙ ap (λ (z : ℤ). c *ℤ a +ℤ z) (mul_comm b c)

add_multiple_is : (ρ : List ℤ) (c : ℤ) (m : List ℕ) (p q : List Term) → eval_sum ρ (add_multiple c m p q) ≡ (c *ℤ eval_product ρ m) *ℤ eval_sum ρ p +ℤ eval_sum ρ q
add_multiple_is ρ c m [] q = omega (arith, ints)
add_multiple_is ρ c m (t ∷ p) q =
    add_term_is ρ (c *ℤ t.coefficient) (multiply_products m t.factors) (add_multiple c m p q)
    ∙ ap (λ (z : ℤ). (c *ℤ t.coefficient) *ℤ z +ℤ eval_sum ρ (add_multiple c m p q)) (multiply_products_is ρ m t.factors)
    ∙ ap (λ (z : ℤ). z +ℤ eval_sum ρ (add_multiple c m p q)) (exchange_inner c t.coefficient (eval_product ρ m) (eval_product ρ t.factors))
    ∙ ap (λ (z : ℤ). (c *ℤ eval_product ρ m) *ℤ (t.coefficient *ℤ eval_product ρ t.factors) +ℤ z) (add_multiple_is ρ c m p q)
    ∙ sym (add_assoc ((c *ℤ eval_product ρ m) *ℤ (t.coefficient *ℤ eval_product ρ t.factors)) ((c *ℤ eval_product ρ m) *ℤ eval_sum ρ p) (eval_sum ρ q))
    ∙ ap (λ (z : ℤ). z +ℤ eval_sum ρ q) (sym (mul_add_right (t.coefficient *ℤ eval_product ρ t.factors) (eval_sum ρ p) (c *ℤ eval_product ρ m)))

abbrev pub multiply_sums : List Term → List Term → List Term
multiply_sums [] q = []
multiply_sums (t ∷ p) q = add_multiple t.coefficient t.factors q (multiply_sums p q)

multiply_sums_is : (ρ : List ℤ) (p q : List Term) → eval_sum ρ (multiply_sums p q) ≡ eval_sum ρ p *ℤ eval_sum ρ q
multiply_sums_is ρ [] q = omega (arith, ints)
multiply_sums_is ρ (t ∷ p) q = add_multiple_is ρ t.coefficient t.factors q (multiply_sums p q) ∙ ap (λ (z : ℤ). (t.coefficient *ℤ eval_product ρ t.factors) *ℤ eval_sum ρ q +ℤ z) (multiply_sums_is ρ p q) ∙ sym (mul_add (t.coefficient *ℤ eval_product ρ t.factors) (eval_sum ρ p) (eval_sum ρ q))

abbrev pub normal_form : E → List Term
normal_form (var i) = record { coefficient = pos 1; factors = i ∷ [] } ∷ []
normal_form (num c) = record { coefficient = c; factors = [] } ∷ []
normal_form (a ⊕ b) = add_sums (normal_form a) (normal_form b)
normal_form (a ⊖ b) = add_sums (normal_form a) (add_multiple (negsuc 0) [] (normal_form b) [])
normal_form (a ⊗ b) = multiply_sums (normal_form a) (normal_form b)

less : (x y : ℤ) → x +ℤ ((negsuc 0 *ℤ pos 1) *ℤ y +ℤ pos 0) ≡ x -ℤ y
less x y = omega (arith, ints)

normal_form_is : (ρ : List ℤ) (e : E) → eval_sum ρ (normal_form e) ≡ eval ρ e
normal_form_is ρ (var i) = omega (arith, ints)
normal_form_is ρ (num c) = omega (arith, ints)
normal_form_is ρ (a ⊕ b) = add_sums_is ρ (normal_form a) (normal_form b) ∙ ap (λ (z : ℤ). z +ℤ eval_sum ρ (normal_form b)) (normal_form_is ρ a) ∙ ap (λ (z : ℤ). eval ρ a +ℤ z) (normal_form_is ρ b)
normal_form_is ρ (a ⊖ b) = add_sums_is ρ (normal_form a) (add_multiple (negsuc 0) [] (normal_form b) []) ∙ ap (λ (z : ℤ). z +ℤ eval_sum ρ (add_multiple (negsuc 0) [] (normal_form b) [])) (normal_form_is ρ a)
    ∙ ap (λ (z : ℤ). eval ρ a +ℤ z) (add_multiple_is ρ (negsuc 0) [] (normal_form b) []) ∙ less (eval ρ a) (eval_sum ρ (normal_form b)) ∙ ap (λ (z : ℤ). eval ρ a -ℤ z) (normal_form_is ρ b)
normal_form_is ρ (a ⊗ b) = multiply_sums_is ρ (normal_form a) (normal_form b) ∙ ap (λ (z : ℤ). z *ℤ eval_sum ρ (normal_form b)) (normal_form_is ρ a) ∙ ap (λ (z : ℤ). eval ρ a *ℤ z) (normal_form_is ρ b)

abbrev pub is_zero : ℤ → Bool
is_zero (pos zero) = true
is_zero (pos (suc n)) = false
is_zero (negsuc n) = false

is_zero_is : (z : ℤ) → is_zero z ≡ true → z ≡ pos 0
is_zero_is (pos zero) e = refl
is_zero_is (pos (suc n)) e = absurd (subst (λ (b : Bool). T b) (sym e) tt)
is_zero_is (negsuc n) e = absurd (subst (λ (b : Bool). T b) (sym e) tt)

abbrev pub all_zero : List Term → Bool
all_zero [] = true
all_zero (t ∷ p) = both (is_zero t.coefficient) (all_zero p)

drop_zero : (c M P : ℤ) → c ≡ pos 0 → P ≡ pos 0 → c *ℤ M +ℤ P ≡ pos 0
drop_zero c M P e f = ap (λ (z : ℤ). z *ℤ M +ℤ P) e ∙ ap (λ (z : ℤ). pos 0 *ℤ M +ℤ z) f ∙ none M
  where
    none : (M : ℤ) → pos 0 *ℤ M +ℤ pos 0 ≡ pos 0
    none M = omega (arith, ints)

all_zero_is : (ρ : List ℤ) (p : List Term) → all_zero p ≡ true → eval_sum ρ p ≡ pos 0
all_zero_is ρ [] e = refl
all_zero_is ρ (t ∷ p) e = drop_zero t.coefficient (eval_product ρ t.factors) (eval_sum ρ p) (is_zero_is t.coefficient (both_first (is_zero t.coefficient) (all_zero p) e)) (all_zero_is ρ p (both_second (is_zero t.coefficient) (all_zero p) e))

same : (x y : ℤ) → x -ℤ y ≡ pos 0 → x ≡ y
same x y e = omega (arith, ints)

-- both sides are the same polynomial of the numbers of ρ
pub ring : (ρ : List ℤ) (e f : E) → all_zero (normal_form (e ⊖ f)) ≡ true → eval ρ e ≡ eval ρ f
ring ρ e f h = same (eval ρ e) (eval ρ f) (sym (normal_form_is ρ (e ⊖ f)) ∙ all_zero_is ρ (normal_form (e ⊖ f)) h)
