-- Where words lead in a form.
--
-- Leads    what words say that lead from a form to a value
-- Reach    the form that is left behind these words
-- Good     each form that may be left has a text
-- Outcome  how reading a form ends
use Rattle.std.proofs.Common.{◌≡◌, ℕ, suc, ◌+◌, List, [], ◌∷◌, ◌++◌, length, Option, Some, None, Ok, Err, refl, sym, ap, subst, ◌∙◌, arith}
use Rattle.std.specs.List.{AllZip}
use Rattle.vol_format.specs.declared.refusal.VolRefusal.TheVariants.{Syntax}
use Rattle.vol_format.specs.Text.{Word, Item, Says}
use Rattle.vol_format.specs.Reading.{Need, Given, got, refused, Form, Leaf, Ask, ◌>>=◌, State, Read, asked, run}
use Rattle.vol_format.proofs.Asks.{item_of, InNeed, got_says, says_got}

abbrev pub spot : ℕ → ℕ → List Word → State
spot k at words = record { places = k; at = at; left = words }

-- words that say these items lead to the value
abbrev pub Leads : {A : Type 0} → Form A → List Item → A → Type 0
Leads (Leaf b) items a = (items ≡ []) × (b ≡ a)
Leads (Ask need form) items a = (v : Given need) × (others : List Item) × (items ≡ item_of need v ∷ others) × InNeed need v × Leads (form v) others a

-- behind these words the form g is left
abbrev pub Reach : {A : Type 0} → ℕ → Form A → List Word → Form A → Type 0
Reach k f [] g = f ≡ g
Reach k (Leaf a) (w ∷ words) g = ⊥
Reach k (Ask need form) (w ∷ words) g = (v : Given need) × (got k need w ≡ Some v) × Reach k (form v) words g

-- for each need there is a word, here and behind each word that is what is needed
abbrev pub Good : {A : Type 0} → ℕ → Form A → Type 0
Good k (Leaf a) = Unit {0}
Good k (Ask need form) = (w : Word) × (v : Given need) × (got k need w ≡ Some v) × ((x : Word) (u : Given need) → got k need x ≡ Some u → Good k (form u))

-- ---- one form behind another

pub leads_then : {A B : Type 0} (f : Form A) (next : A → Form B) (xs ys : List Item) (a : A) (b : B) → Leads f xs a → Leads (next a) ys b → Leads (f >>= next) (xs ++ ys) b
leads_then (Leaf c) next xs ys a b p q = subst (λ (x : _). Leads (next x) (xs ++ ys) b) (sym p.1) (subst (λ (zs : List Item). Leads (next a) (zs ++ ys) b) (sym p.0) q)
leads_then (Ask need form) next xs ys a b p q = (p.0, p.1 ++ ys, ap (λ (zs : List Item). zs ++ ys) p.2, p.3, leads_then (form p.0) next p.1 ys a b p.4 q)

pub record Parts {A B : Type 0} (f : Form A) (next : A → Form B) (items : List Item) (b : B) : Type 0 where
  pub front : List Item
  pub back : List Item
  pub value : A
  pub same : items ≡ front ++ back
  pub first : Leads f front value
  pub then : Leads (next value) back b

pub then_leads : {A B : Type 0} (f : Form A) (next : A → Form B) (items : List Item) (b : B) → Leads (f >>= next) items b → Parts f next items b
then_leads (Leaf c) next items b p = record { front = []; back = items; value = c; same = refl; first = (refl, refl); then = p }
then_leads (Ask need form) next items b p =
    let r = then_leads (form p.0) next p.1 b p.4 in
    record { front = item_of need p.0 ∷ r.front; back = r.back; value = r.value; same = p.2 ∙ ap (λ (xs : List Item). item_of need p.0 ∷ xs) r.same; first = (p.0, r.front, refl, p.3, r.first); then = r.then }

pub good_then : {A B : Type 0} (k : ℕ) (f : Form A) (next : A → Form B) → Good k f → ((a : A) → Good k (next a)) → Good k (f >>= next)
good_then k (Leaf a) next good more = more a
good_then k (Ask need form) next good more = (good.0, good.1, good.2, λ x u e. good_then k (form u) next (good.3 x u e) more)

-- ---- what is left behind words

pub reach_run : {A : Type 0} (k at : ℕ) (f g : Form A) (before words : List Word) → Reach k f before g → run f (spot k at (before ++ words)) ≡ run g (spot k (at + length before) words)
unfolding asked
reach_run k at f g [] words reach = let none : at ≡ at + 0 = omega arith in ap (λ (h : Form _). run h (spot k at words)) reach ∙ ap (λ (n : ℕ). run g (spot k n words)) none
reach_run k at (Leaf a) g (w ∷ before) words reach = absurd reach
reach_run k at (Ask need form) g (w ∷ before) words reach =
    let one : run (Ask need form) (spot k at (w ∷ (before ++ words))) ≡ run (form reach.0) (spot k (at + 1) (before ++ words)) = rw reach.1 refl in
    let more : at + 1 + length before ≡ at + length (w ∷ before) = omega arith in
    one ∙ reach_run k (at + 1) (form reach.0) g before words reach.2 ∙ ap (λ (n : ℕ). run g (spot k n words)) more

pub record Split {A : Type 0} (k : ℕ) (f : Form A) (a : A) (items : List Item) (before rest : List Word) : Type 0 where
  pub left : Form A
  pub front : List Item
  pub back : List Item
  pub same : items ≡ front ++ back
  pub long : length front ≡ length before
  pub reach : Reach k f before left
  pub leads : Leads left back a
  pub says : AllZip (Says k) rest back

pub split : {A : Type 0} (k : ℕ) (f : Form A) (a : A) (items : List Item) (before rest : List Word) → Leads f items a → AllZip (Says k) (before ++ rest) items → Split k f a items before rest
split k f a items [] rest leads says = record { left = f; front = []; back = items; same = refl; long = refl; reach = refl; leads = leads; says = says }
split k (Leaf b) a items (w ∷ before) rest leads says = absurd (subst (λ (xs : List Item). AllZip (Says k) (w ∷ (before ++ rest)) xs) leads.0 says)
split k (Ask need form) a items (w ∷ before) rest leads says =
    let both : AllZip (Says k) (w ∷ (before ++ rest)) (item_of need leads.0 ∷ leads.1) = subst (λ (xs : List Item). AllZip (Says k) (w ∷ (before ++ rest)) xs) leads.2 says in
    let s = split k (form leads.0) a leads.1 before rest leads.4 both.1 in
    record { left = s.left; front = item_of need leads.0 ∷ s.front; back = s.back; same = leads.2 ∙ ap (λ (xs : List Item). item_of need leads.0 ∷ xs) s.same; long = ap suc s.long; reach = (leads.0, says_got k need w leads.0 both.0 leads.3, s.reach); leads = s.leads; says = s.says }

-- words that are a text of the value
pub record Text {A : Type 0} (k : ℕ) (f : Form A) (words : List Word) (a : A) : Type 0 where
  pub items : List Item
  pub leads : Leads f items a
  pub says : AllZip (Says k) words items

pub join : {A : Type 0} (k : ℕ) (f g : Form A) (a : A) (before rest : List Word) → Reach k f before g → Text k g rest a → Text k f (before ++ rest) a
join k f g a [] rest reach t = subst (λ (h : Form _). Text k h rest a) (sym reach) t
join k (Leaf b) g a (w ∷ before) rest reach t = absurd reach
join k (Ask need form) g a (w ∷ before) rest reach t =
    let s = join k (form reach.0) g a before rest reach.2 t in
    let p = got_says k need w reach.0 reach.1 in
    record { items = item_of need reach.0 ∷ s.items; leads = (reach.0, s.items, refl, p.1, s.leads); says = (p.0, s.says) }

-- one form is left
pub reach_one : {A : Type 0} (k : ℕ) (f g h : Form A) (before : List Word) → Reach k f before g → Reach k f before h → g ≡ h
reach_one k f g h [] p q = sym p ∙ q
reach_one k (Leaf a) g h (w ∷ before) p q = absurd p
reach_one k (Ask need form) g h (w ∷ before) p q =
    let both : Some p.0 ≡ Some q.0 = sym p.1 ∙ q.1 in
    let same : q.0 ≡ p.0 = cc in
    reach_one k (form p.0) g h before p.2 (subst (λ (v : Given need). Reach k (form v) before h) same q.2)

-- a word more
pub reach_more : {A : Type 0} (k : ℕ) (f : Form A) (need : Need) (form : Given need → Form A) (before : List Word) (w : Word) (v : Given need) → Reach k f before (Ask need form) → got k need w ≡ Some v → Reach k f (before ++ w ∷ []) (form v)
reach_more k f need form [] w v reach e = subst (λ (h : Form _). Reach k h (w ∷ []) (form v)) (sym reach) (v, e, refl)
reach_more k (Leaf a) need form (x ∷ before) w v reach e = absurd reach
reach_more k (Ask other more) need form (x ∷ before) w v reach e = (reach.0, reach.1, reach_more k (more reach.0) need form before w v reach.2 e)

pub reach_good : {A : Type 0} (k : ℕ) (f g : Form A) (before : List Word) → Reach k f before g → Good k f → Good k g
reach_good k f g [] reach good = subst (λ (h : Form _). Good k h) reach good
reach_good k (Leaf a) g (w ∷ before) reach good = absurd reach
reach_good k (Ask need form) g (w ∷ before) reach good = reach_good k (form reach.0) g before reach.2 (good.3 w reach.0 reach.1)

-- a good form has a text
pub some_text : {A : Type 0} (k : ℕ) (f : Form A) → Good k f → (words : List Word) × (a : A) × Text k f words a
some_text k (Leaf a) good = ([], a, record { items = []; leads = (refl, refl); says = tt })
some_text k (Ask need form) good =
    let s = some_text k (form good.1) (good.3 good.0 good.1 good.2) in
    let p = got_says k need good.0 good.1 good.2 in
    (good.0 ∷ s.0, s.1, record { items = item_of need good.1 ∷ s.2.items; leads = (good.1, s.2.items, refl, p.1, s.2.leads); says = (p.0, s.2.says) })

-- ---- how reading ends

pub data Outcome {A : Type 0} (k at : ℕ) (f : Form A) (words : List Word) (r : Read A) : Type 0 where
  -- with a value
  Done : (a : A) (before rest : List Word) → words ≡ before ++ rest → Reach k f before (Leaf a) → r ≡ Ok (a, spot k (at + length before) rest) → Outcome k at f words r
  -- a word is missing
  Short : (need : Need) (form : Given need → Form A) → Reach k f words (Ask need form) → r ≡ Err (Syntax (at + length words)) → Outcome k at f words r
  -- this word is not what is needed
  Wrong : (before rest : List Word) (w : Word) (need : Need) (form : Given need → Form A) → words ≡ before ++ (w ∷ rest) → Reach k f before (Ask need form) → got k need w ≡ None
      → r ≡ Err (refused need (at + length before) w) → Outcome k at f words r

one_more : (at : ℕ) (w : Word) (before : List Word) → at + 1 + length before ≡ at + length (w ∷ before)
one_more at w before = omega arith

lift : {A : Type 0} (k at : ℕ) (need : Need) (form : Given need → Form A) (v : Given need) (w : Word) (words : List Word) (r : Read A) → got k need w ≡ Some v → Outcome k (at + 1) (form v) words r → Outcome k at (Ask need form) (w ∷ words) r
lift k at need form v w words r e (Done a before rest same reach is) = Done a (w ∷ before) rest (ap (λ (ws : List Word). w ∷ ws) same) (v, e, reach) (is ∙ ap (λ (n : ℕ). Ok (a, spot k n rest)) (one_more at w before))
lift k at need form v w words r e (Short last more reach is) = Short last more (v, e, reach) (is ∙ ap (λ (n : ℕ). Err (Syntax n)) (one_more at w words))
lift k at need form v w words r e (Wrong before rest x last more same reach none is) = Wrong (w ∷ before) rest x last more (ap (λ (ws : List Word). w ∷ ws) same) (v, e, reach) none (is ∙ ap (λ (n : ℕ). Err (refused last n x)) (one_more at w before))

by_word : {A : Type 0} (k at : ℕ) (need : Need) (form : Given need → Form A) (w : Word) (words : List Word) (o : Option (Given need)) → got k need w ≡ o
    → ((v : Given need) → Outcome k (at + 1) (form v) words (run (form v) (spot k (at + 1) words))) → Outcome k at (Ask need form) (w ∷ words) (run (Ask need form) (spot k at (w ∷ words)))
unfolding asked
by_word k at need form w words None e rest = let none : at ≡ at + 0 = omega arith in Wrong [] words w need form refl refl e (rw e (ap (λ (n : ℕ). Err (refused need n w)) none))
by_word k at need form w words (Some v) e rest =
    let one : run (form v) (spot k (at + 1) words) ≡ run (Ask need form) (spot k at (w ∷ words)) = rw e refl in
    subst (λ (r : Read _). Outcome k at (Ask need form) (w ∷ words) r) one (lift k at need form v w words (run (form v) (spot k (at + 1) words)) e (rest v))

pub outcome : {A : Type 0} (k at : ℕ) (f : Form A) (words : List Word) → Outcome k at f words (run f (spot k at words))
unfolding asked
outcome k at (Leaf a) words = let none : at ≡ at + 0 = omega arith in Done a [] words refl refl (ap (λ (n : ℕ). Ok (a, spot k n words)) none)
outcome k at (Ask need form) [] = let none : at ≡ at + 0 = omega arith in Short need form refl (ap (λ (n : ℕ). Err (Syntax n)) none)
outcome k at (Ask need form) (w ∷ words) = by_word k at need form w words (got k need w) refl (λ v. outcome k (at + 1) (form v) words)
