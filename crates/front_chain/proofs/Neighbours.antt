-- The lines in order of making stay linked when one leaves and when one joins, and a walk along the links finds the least number above another. Neighbours are unique, so a line that leaves has the one before it and the one after it as its only neighbours.
use Prim.Native.Nat.{ℕ, ◌+◌, ◌≤◌, ◌<◌}
use mathlib.Core.Path.{◌≡◌, refl, sym, ap, ◌∙◌, subst}
use mathlib.Core.Bool.{Bool, true, false, cond}
use mathlib.Core.Logic.{◌≢◌, ◌⊎◌, inl, inr}
use native.Mathlib.Omega.{arith}
use Rattle.std.specs.Prelude.{nat_eq, is_some, Option, Some, None}
use Rattle.std.specs.Option.{option_map}
use Rattle.front_chain.specs.declared.side.Side.{Side}
use Rattle.front_chain.specs.declared.order.Link.{Link}
use Rattle.front_chain.specs.Links.{sides_in, followed_by, led_by, IsMade, IsNext, AreLinked}

abbrev pub Table : Type 0
Table = ℕ → Option Link

-- ---- neighbours are unique
one_after : (links : Table) (m n p : ℕ) → IsNext links m n → IsNext links m p → n ≡ p
one_after links m n p h k = by h.to k.to
  where
    between : (a b : ℕ) → a ≤ b → b ≤ a → a ≡ b
    between a b l i = omega (arith, l, i)

    by : (n ≡ 0) ⊎ (IsMade links n × (m < n)) → (p ≡ 0) ⊎ (IsMade links p × (m < p)) → n ≡ p
    by (inl e) (inl f) = e ∙ sym f
    by (inl e) (inr f) = absurd ((h.between p f.0 f.1).0 e)
    by (inr e) (inl f) = absurd ((k.between n e.0 e.1).0 f)
    by (inr e) (inr f) = between n p (h.between p f.0 f.1).1 (k.between n e.0 e.1).1

one_before : (links : Table) (m p n : ℕ) → IsNext links m n → IsNext links p n → m ≡ p
one_before links m p n h k = by (compared m p)
  where
    compared : (m p : ℕ) → (m ≡ p) ⊎ ((m < p) ⊎ (p < m))
    compared m p = grind arith

    -- a line between two that n comes after
    apart : (m p : ℕ) → IsNext links m n → IsNext links p n → m < p → ⊥
    apart m p h k l = from k.from
      where
        none : (m p : ℕ) → m < p → p ≡ 0 → ⊥
        none m p l e = omega (arith, l, e)

        over : (n p : ℕ) → p < n → n ≤ p → ⊥
        over n p l i = omega (arith, l, i)

        to : IsMade links p → (n ≡ 0) ⊎ (IsMade links n × (p < n)) → ⊥
        to there (inl e) = (h.between p there l).0 e
        to there (inr e) = over n p e.1 (h.between p there l).1

        from : (p ≡ 0) ⊎ IsMade links p → ⊥
        from (inl e) = none m p l e
        from (inr there) = to there k.to

    by : (m ≡ p) ⊎ ((m < p) ⊎ (p < m)) → m ≡ p
    by (inl e) = e
    by (inr (inl l)) = absurd (apart m p h k l)
    by (inr (inr l)) = absurd (apart p m k h l)

-- ---- a line that leaves
-- the table after: the line is gone, its neighbours are linked
abbrev pub after_leaving : Table → ℕ → Link → Table
after_leaving links gone link q = option_map (led_by link.after link.before q) (option_map (followed_by link.before link.after q) (cond (nat_eq gone q) None (links q)))

pub some_map : {A B : Type 0} (f : A → B) (o : Option A) → is_some (option_map f o) ≡ is_some o
some_map f None = refl
some_map f (Some a) = refl

pub no_image : {A B : Type 0} (f : A → B) (o : Option A) (b : B) → option_map f o ≡ Some b → (a : A) × ((o ≡ Some a) × (f a ≡ b))
no_image f None b e = absurd (cc)
no_image {A} {B} f (Some a) b e = (a, (refl, one (f a) b e))
  where
    one : (x y : B) → Some x ≡ Some y → x ≡ y
    one x y e = cc

module _ (links : Table) (count first last gone : ℕ) (link : Link) (h : AreLinked links count first last) (there : links gone ≡ Some link) where
  left : Table
  left = after_leaving links gone link

  its_before : IsNext links link.before gone
  its_before = h.before_is gone link there

  its_after : IsNext links gone link.after
  its_after = h.after_is gone link there

  gone_made : IsMade links gone
  gone_made = ap is_some there

  positive : 1 ≤ gone
  positive = (h.within gone gone_made).0

  -- the lines that are still there
  still : (q : ℕ) → is_some (left q) ≡ is_some (cond (nat_eq gone q) None (links q))
  unfolding left
  still q = some_map (led_by link.after link.before q) (option_map (followed_by link.before link.after q) (cond (nat_eq gone q) None (links q))) ∙ some_map (followed_by link.before link.after q) (cond (nat_eq gone q) None (links q))

  still_made : (q : ℕ) → IsMade left q → IsMade links q × (gone ≢ q)
  still_made q m = by (nat_eq gone q) refl (sym (still q) ∙ m)
    where
      itself : (g : ℕ) → nat_eq g g ≡ true
      itself g = grind arith

      clash : {A : Type 0} → true ≡ false → A
      clash e = absurd (cc)

      by : (b : Bool) → nat_eq gone q ≡ b → is_some (cond b None (links q)) ≡ true → IsMade links q × (gone ≢ q)
      by true e k = clash (sym k)
      by false e k = (k, λ i. clash (sym (subst (λ (z : ℕ). nat_eq gone z ≡ true) i (itself gone)) ∙ e))

  made_still : (q : ℕ) → IsMade links q → gone ≢ q → IsMade left q
  made_still q m n = still q ∙ by (nat_eq gone q) refl
    where
      same : (g q : ℕ) → nat_eq g q ≡ true → g ≡ q
      same g q e = grind arith

      by : (b : Bool) → nat_eq gone q ≡ b → is_some (cond b None (links q)) ≡ true
      by true e = absurd (n (same gone q e))
      by false e = m

  below : link.before < gone
  below = by its_before.to
    where
      none : (g : ℕ) → 1 ≤ g → g ≡ 0 → ⊥
      none g l e = omega (arith, l, e)

      by : (gone ≡ 0) ⊎ (IsMade links gone × (link.before < gone)) → link.before < gone
      by (inl e) = absurd (none gone positive e)
      by (inr e) = e.1

  -- the neighbours are neighbours of each other
  joined : IsNext left link.before link.after
  joined = record {
    from = elim its_before.from [ inl e ↦ inl e | inr m ↦ inr (made_still link.before m (λ e. less gone link.before below e)) ];
    to = elim its_after.to [ inl e ↦ inl e | inr m ↦ inr (made_still link.after m.0 (λ e. more gone link.after m.1 e), through link.before gone link.after below m.1) ];
    between = λ k m l. let s = still_made k m in its_after.between k s.0 (past gone k (its_before.between k s.0 l).1 s.1);
  }
    where
      less : (g b : ℕ) → b < g → g ≡ b → ⊥
      less g b l e = omega (arith, l, e)

      more : (g a : ℕ) → g < a → g ≡ a → ⊥
      more g a l e = omega (arith, l, e)

      through : (b g a : ℕ) → b < g → g < a → b < a
      through b g a l i = omega (arith, l, i)

      past : (g k : ℕ) → g ≤ k → g ≢ k → g < k
      past g k l n = grind arith

  -- and other neighbours stay
  kept : (m n : ℕ) → IsNext links m n → gone ≢ m → gone ≢ n → IsNext left m n
  kept m n i not_m not_n = record {
    from = elim i.from [ inl e ↦ inl e | inr k ↦ inr (made_still m k not_m) ];
    to = elim i.to [ inl e ↦ inl e | inr k ↦ inr (made_still n k.0 not_n, k.1) ];
    between = λ k j l. i.between k (still_made k j).0 l;
  }

  -- a line that comes before the one that leaves is its neighbour
  new_after : (q n : ℕ) → gone ≢ q → IsNext links q n → IsNext left q (cond (nat_eq link.before q) link.after n)
  new_after q n other i = by (nat_eq link.before q) refl
    where
      same : (g q : ℕ) → nat_eq g q ≡ true → g ≡ q
      same g q e = grind arith

      differ : (g q : ℕ) → nat_eq g q ≡ false → g ≡ q → ⊥
      differ g q e f = grind arith

      by : (b : Bool) → nat_eq link.before q ≡ b → IsNext left q (cond b link.after n)
      by true e = subst (λ (z : ℕ). IsNext left z link.after) (same link.before q e) joined
      by false e = kept q n i other (λ f. differ link.before q e (one_before links link.before q gone its_before (subst (IsNext links q) (sym f) i)))

  new_before : (q n : ℕ) → gone ≢ q → IsNext links n q → IsNext left (cond (nat_eq link.after q) link.before n) q
  new_before q n other i = by (nat_eq link.after q) refl
    where
      same : (g q : ℕ) → nat_eq g q ≡ true → g ≡ q
      same g q e = grind arith

      differ : (g q : ℕ) → nat_eq g q ≡ false → g ≡ q → ⊥
      differ g q e f = grind arith

      by : (b : Bool) → nat_eq link.after q ≡ b → IsNext left (cond b link.before n) q
      by true e = subst (λ (z : ℕ). IsNext left link.before z) (same link.after q e) joined
      by false e = kept n q i (λ f. differ link.after q e (one_after links gone link.after q its_after (subst (λ (z : ℕ). IsNext links z q) (sym f) i))) other

  -- which link a line has now
  link_left : (q : ℕ) (now : Link) → left q ≡ Some now → (old : Link) × ((links q ≡ Some old) × ((now.after ≡ cond (nat_eq link.before q) link.after old.after) × (now.before ≡ cond (nat_eq link.after q) link.before old.before)))
  unfolding left
  link_left q now e =
      let first = no_image (led_by link.after link.before q) (option_map (followed_by link.before link.after q) (cond (nat_eq gone q) None (links q))) now e in
      let second = no_image (followed_by link.before link.after q) (cond (nat_eq gone q) None (links q)) first.0 first.1.0 in
      (second.0, (by (nat_eq gone q) second.1.0, (sym (ap (λ (l : Link). l.after) first.1.1) ∙ sym (ap (λ (l : Link). l.after) second.1.1), sym (ap (λ (l : Link). l.before) first.1.1) ∙ ap (λ (z : ℕ). cond (nat_eq link.after q) link.before z) (sym (ap (λ (l : Link). l.before) second.1.1)))))
    where
      by : (b : Bool) {l : Link} → cond b None (links q) ≡ Some l → links q ≡ Some l
      by true e = absurd (cc)
      by false e = e

  pub links_left : (now_first now_last : ℕ) → now_first ≡ cond (nat_eq link.before 0) link.after first → now_last ≡ cond (nat_eq link.after 0) link.before last → AreLinked (after_leaving links gone link) count now_first now_last
  unfolding left
  links_left now_first now_last e f = record {
    within = λ n m. h.within n (still_made n m).0;
    first_is = subst (IsNext left 0) (sym e) (new_after 0 first not_zero h.first_is);
    last_is = subst (λ (z : ℕ). IsNext left z 0) (sym f) (new_before 0 last not_zero h.last_is);
    after_is = λ n now k. let o = link_left n now k in subst (IsNext left n) (sym o.1.1.0) (new_after n o.0.after (still_made n (ap is_some k)).1 (h.after_is n o.0 o.1.0));
    before_is = λ n now k. let o = link_left n now k in subst (λ (z : ℕ). IsNext left z n) (sym o.1.1.1) (new_before n o.0.before (still_made n (ap is_some k)).1 (h.before_is n o.0 o.1.0));
  }
    where
      not_zero : gone ≢ 0
      not_zero e = none gone positive e
        where
          none : (g : ℕ) → 1 ≤ g → g ≡ 0 → ⊥
          none g l e = omega (arith, l, e)

  -- where a line is noted as one's neighbour, or as the first or the last
  pub noted : (q x y : ℕ) → (q ≡ 0) ⊎ IsMade links q → gone ≢ q → cond (is_some (cond (nat_eq gone q) None (links q))) x y ≡ cond (nat_eq q 0) y x
  noted q x y (inl e) n = ap (λ b. cond b x y) (by (nat_eq gone q) (links q) refl) ∙ sym (ap (λ b. cond b y x) (zero_is q e))
    where
      zero_is : (q : ℕ) → q ≡ 0 → nat_eq q 0 ≡ true
      zero_is q e = grind arith

      none : (q : ℕ) → q ≡ 0 → 1 ≤ q → ⊥
      none q e l = omega (arith, e, l)

      by : (b : Bool) (o : Option Link) → links q ≡ o → is_some (cond b None o) ≡ false
      by true o f = refl
      by false None f = refl
      by false (Some l) f = absurd (none q e (h.within q (ap is_some f)).0)
  noted q x y (inr m) n = ap (λ b. cond b x y) (ap (λ b. is_some (cond b None (links q))) (other gone q n) ∙ m) ∙ sym (ap (λ b. cond b y x) (not_zero q (h.within q m).0))
    where
      other : (g q : ℕ) → g ≢ q → nat_eq g q ≡ false
      other g q n = grind arith

      not_zero : (q : ℕ) → 1 ≤ q → nat_eq q 0 ≡ false
      not_zero q l = grind arith

  pub first_noted : cond (is_some (cond (nat_eq gone link.before) None (links link.before))) first link.after ≡ cond (nat_eq link.before 0) link.after first
  first_noted = noted link.before first link.after its_before.from (less gone link.before below)
    where
      less : (g b : ℕ) → b < g → g ≢ b
      less g b l e = omega (arith, l, e)

  pub last_noted : cond (is_some (cond (nat_eq gone link.after) None (links link.after))) last link.before ≡ cond (nat_eq link.after 0) link.before last
  last_noted = noted link.after last link.before (elim its_after.to [ inl e ↦ inl e | inr m ↦ inr m.0 ]) (elim its_after.to [ inl e ↦ zero gone link.after positive e | inr m ↦ more gone link.after m.1 ])
    where
      zero : (g a : ℕ) → 1 ≤ g → a ≡ 0 → g ≢ a
      zero g a l e f = omega (arith, l, e, f)

      more : (g a : ℕ) → g < a → g ≢ a
      more g a l e = omega (arith, l, e)

-- the ends in the table after
pub sides_left : (links : Table) (gone : ℕ) (link : Link) (q : ℕ) → sides_in (after_leaving links gone link) q ≡ cond (nat_eq gone q) None (sides_in links q)
sides_left links gone link q = image (cond (nat_eq gone q) None (links q)) ∙ by (nat_eq gone q)
  where
    image : (o : Option Link) → option_map (λ (l : Link). l.side) (option_map (led_by link.after link.before q) (option_map (followed_by link.before link.after q) o)) ≡ option_map (λ (l : Link). l.side) o
    image None = refl
    image (Some l) = refl

    by : (b : Bool) → option_map (λ (l : Link). l.side) (cond b None (links q)) ≡ cond b None (sides_in links q)
    by true = refl
    by false = refl

-- ---- a line that joins
-- the table after: the last line is followed by the new one, which comes after it
abbrev pub new_link : Side → ℕ → Link
new_link side last = record { side = side; before = last; after = 0 }

abbrev pub after_joining : Table → ℕ → ℕ → Side → Table
after_joining links last number side q = cond (nat_eq number q) (Some (new_link side last)) (option_map (followed_by last number q) (links q))

module _ (links : Table) (count first last : ℕ) (side : Side) (h : AreLinked links count first last) where
  more : Table
  more = after_joining links last (count + 1) side

  above : (q : ℕ) → IsMade links q → q < count + 1
  above q m = next q count (h.within q m).1
    where
      next : (q c : ℕ) → q ≤ c → q < c + 1
      next q c l = omega (arith, l)

  new_made : IsMade more (count + 1)
  unfolding more
  new_made = ap (λ b. is_some (cond b (Some (new_link side last)) (option_map (followed_by last (count + 1) (count + 1)) (links (count + 1))))) (itself (count + 1))
    where
      itself : (n : ℕ) → nat_eq n n ≡ true
      itself n = grind arith

  old_made : (q : ℕ) → IsMade links q → IsMade more q
  unfolding more
  old_made q m = ap (λ b. is_some (cond b (Some (new_link side last)) (option_map (followed_by last (count + 1) q) (links q)))) (other (count + 1) q (above q m)) ∙ some_map (followed_by last (count + 1) q) (links q) ∙ m
    where
      other : (n q : ℕ) → q < n → nat_eq n q ≡ false
      other n q l = grind arith

  which_made : (q : ℕ) → IsMade more q → (count + 1 ≡ q) ⊎ IsMade links q
  unfolding more
  which_made q m = by (nat_eq (count + 1) q) refl m
    where
      same : (n q : ℕ) → nat_eq n q ≡ true → n ≡ q
      same n q e = grind arith

      by : (b : Bool) → nat_eq (count + 1) q ≡ b → is_some (cond b (Some (new_link side last)) (option_map (followed_by last (count + 1) q) (links q))) ≡ true → (count + 1 ≡ q) ⊎ IsMade links q
      by true e k = inl (same (count + 1) q e)
      by false e k = inr (sym (some_map (followed_by last (count + 1) q) (links q)) ∙ k)

  last_below : last < count + 1
  last_below = elim h.last_is.from [ inl e ↦ least last count e | inr m ↦ above last m ]
    where
      least : (l c : ℕ) → l ≡ 0 → l < c + 1
      least l c e = omega (arith, e)

  still_to : (m n : ℕ) → IsNext links m n → n ≢ 0 → IsNext more m n
  still_to m n i not_zero = record {
    from = elim i.from [ inl e ↦ inl e | inr k ↦ inr (old_made m k) ];
    to = elim i.to [ inl e ↦ absurd (not_zero e) | inr k ↦ inr (old_made n k.0, k.1) ];
    between = λ k j l. elim (which_made k j) [ inl e ↦ (not_zero, reached k e) | inr o ↦ i.between k o l ];
  }
    where
      reached : (k : ℕ) → count + 1 ≡ k → n ≤ k
      reached k e = elim i.to [ inl f ↦ absurd (not_zero f) | inr o ↦ less n (count + 1) k (above n o.0) e ]
        where
          less : (n c k : ℕ) → n < c → c ≡ k → n ≤ k
          less n c k l e = omega (arith, l, e)

  after_last : IsNext more last (count + 1)
  after_last = record {
    from = elim h.last_is.from [ inl e ↦ inl e | inr m ↦ inr (old_made last m) ];
    to = inr (new_made, last_below);
    between = λ k j l. elim (which_made k j) [ inl e ↦ (not_zero count, equal (count + 1) k e) | inr o ↦ absurd ((h.last_is.between k o l).0 refl) ];
  }
    where
      not_zero : (c : ℕ) → c + 1 ≢ 0
      not_zero c e = omega (arith, e)

      equal : (c k : ℕ) → c ≡ k → c ≤ k
      equal c k e = omega (arith, e)

  new_last : IsNext more (count + 1) 0
  new_last = record {
    from = inr new_made;
    to = inl refl;
    between = λ k j l. elim (which_made k j) [ inl e ↦ absurd (not_less (count + 1) k e l) | inr o ↦ absurd (not_more (count + 1) k (above k o) l) ];
  }
    where
      not_less : (c k : ℕ) → c ≡ k → c < k → ⊥
      not_less c k e l = omega (arith, e, l)

      not_more : (c k : ℕ) → k < c → c < k → ⊥
      not_more c k l i = omega (arith, l, i)

  -- the last line has the new one after it, and any other what it had
  now_after : (m n : ℕ) → IsNext links m n → IsNext more m (cond (nat_eq last m) (count + 1) n)
  now_after m n i = by (nat_eq last m) refl
    where
      same : (l m : ℕ) → nat_eq l m ≡ true → l ≡ m
      same l m e = grind arith

      differ : (l m : ℕ) → nat_eq l m ≡ false → l ≡ m → ⊥
      differ l m e f = grind arith

      by : (b : Bool) → nat_eq last m ≡ b → IsNext more m (cond b (count + 1) n)
      by true e = subst (λ (z : ℕ). IsNext more z (count + 1)) (same last m e) after_last
      by false e = still_to m n i (λ f. differ last m e (one_before links last m 0 h.last_is (subst (IsNext links m) f i)))

  pub links_joined : (now_first : ℕ) → now_first ≡ cond (nat_eq last 0) (count + 1) first → AreLinked (after_joining links last (count + 1) side) (count + 1) now_first (count + 1)
  unfolding more
  links_joined now_first e = record {
    within = λ n m. elim (which_made n m) [ inl f ↦ (least count n f, equal (count + 1) n f) | inr o ↦ ((h.within n o).0, up n count (h.within n o).1) ];
    first_is = subst (IsNext more 0) (sym e) (now_after 0 first h.first_is);
    last_is = new_last;
    after_is = λ n link k. after_at n link (nat_eq (count + 1) n) refl k;
    before_is = λ n link k. before_at n link (nat_eq (count + 1) n) refl k;
  }
    where
      least : (c n : ℕ) → c + 1 ≡ n → 1 ≤ n
      least c n e = omega (arith, e)

      equal : (c n : ℕ) → c ≡ n → n ≤ c
      equal c n e = omega (arith, e)

      up : (n c : ℕ) → n ≤ c → n ≤ c + 1
      up n c l = omega (arith, l)

      same : (l m : ℕ) → nat_eq l m ≡ true → l ≡ m
      same l m e = grind arith

      one : (a b : Link) → Some a ≡ Some b → a ≡ b
      one a b e = cc

      made_zero : (n : ℕ) → 1 ≤ n → n ≢ 0
      made_zero n l e = omega (arith, l, e)

      after_at : (n : ℕ) (link : Link) (b : Bool) → nat_eq (count + 1) n ≡ b → cond b (Some (new_link side last)) (option_map (followed_by last (count + 1) n) (links n)) ≡ Some link → IsNext more n link.after
      after_at n link true f k = subst (IsNext more n) (ap (λ (l : Link). l.after) (one (new_link side last) link k)) (subst (λ (z : ℕ). IsNext more z 0) (same (count + 1) n f) new_last)
      after_at n link false f k = let o = no_image (followed_by last (count + 1) n) (links n) link k in subst (IsNext more n) (ap (λ (l : Link). l.after) o.1.1) (now_after n o.0.after (h.after_is n o.0 o.1.0))

      before_at : (n : ℕ) (link : Link) (b : Bool) → nat_eq (count + 1) n ≡ b → cond b (Some (new_link side last)) (option_map (followed_by last (count + 1) n) (links n)) ≡ Some link → IsNext more link.before n
      before_at n link true f k = subst (λ (z : ℕ). IsNext more z n) (ap (λ (l : Link). l.before) (one (new_link side last) link k)) (subst (IsNext more last) (same (count + 1) n f) after_last)
      before_at n link false f k = let o = no_image (followed_by last (count + 1) n) (links n) link k in subst (λ (z : ℕ). IsNext more z n) (ap (λ (l : Link). l.before) o.1.1)
          (still_to o.0.before n (h.before_is n o.0 o.1.0) (made_zero n (h.within n (ap is_some o.1.0)).0))

  pub first_joined : cond (is_some (links last)) first (count + 1) ≡ cond (nat_eq last 0) (count + 1) first
  first_joined = elim h.last_is.from [
    | inl e ↦ ap (λ b. cond b first (count + 1)) (absent e (links last) refl) ∙ sym (ap (λ b. cond b (count + 1) first) (zero_is last e))
    | inr m ↦ ap (λ b. cond b first (count + 1)) m ∙ sym (ap (λ b. cond b (count + 1) first) (not_zero last (h.within last m).0))
  ]
    where
      zero_is : (q : ℕ) → q ≡ 0 → nat_eq q 0 ≡ true
      zero_is q e = grind arith

      not_zero : (q : ℕ) → 1 ≤ q → nat_eq q 0 ≡ false
      not_zero q l = grind arith

      none : (q : ℕ) → q ≡ 0 → 1 ≤ q → ⊥
      none q e l = omega (arith, e, l)

      absent : last ≡ 0 → (o : Option Link) → links last ≡ o → is_some o ≡ false
      absent e None f = refl
      absent e (Some l) f = absurd (none last e (h.within last (ap is_some f)).0)

pub sides_joined : (links : Table) (last number : ℕ) (side : Side) (q : ℕ) → sides_in (after_joining links last number side) q ≡ cond (nat_eq number q) (Some side) (sides_in links q)
sides_joined links last number side q = by (nat_eq number q)
  where
    image : (o : Option Link) → option_map (λ (l : Link). l.side) (option_map (followed_by last number q) o) ≡ option_map (λ (l : Link). l.side) o
    image None = refl
    image (Some l) = refl

    by : (b : Bool) → option_map (λ (l : Link). l.side) (cond b (Some (new_link side last)) (option_map (followed_by last number q) (links q))) ≡ cond b (Some side) (sides_in links q)
    by true = refl
    by false = image (links q)
