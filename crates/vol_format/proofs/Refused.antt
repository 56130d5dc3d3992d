-- A text is refused at the first word with which no text goes on, and has no other refusal.
use Rattle.std.proofs.Common.{◌≡◌, ◌≢◌, inl, inr, ℕ, ◌+◌, ◌<◌, Bool, true, false, List, [], ◌∷◌, ◌++◌, length, Option, Some, None, Ok, Err, refl, sym, ap, subst, ◌∙◌, arith}
use Rattle.std.specs.Prelude.{ℤ, nat_le}
use Rattle.std.proofs.lemmas.List.{append-nil}
use Rattle.std.proofs.lemmas.Bool.{leb-false}
use Rattle.word_scan.specs.Numerals.{value_of, is_whole, whole_of}
use Rattle.vol_format.specs.declared.Mesh.{Mesh}
use Rattle.vol_format.specs.declared.refusal.TheConstants.{MOST_ROWS}
use Rattle.vol_format.specs.declared.refusal.VolRefusal.{VolRefusal}
use Rattle.vol_format.specs.declared.refusal.VolRefusal.TheVariants.{Syntax, Number as NumberAt, TooMany, BadIndex, Memory}
use Rattle.vol_format.specs.Vol.{places}
use Rattle.vol_format.specs.Text.{Word, Item, Number, Count, Derives, Known}
use Rattle.vol_format.specs.Refusals.{IsFront, Stops, Misses, Wants, IsNumber, PassesLimit, Refuses}
use Rattle.vol_format.specs.Reading.{Need, NeedWord, NeedNumber, NeedPoint, NeedCount, NeedPlace, Given, got, refused, Form, Leaf, Ask, run, asked, ended, known, mesh_of}
use Rattle.vol_format.proofs.Words.{told_whole, whole_told}
use Rattle.vol_format.proofs.Asks.{item_of}
use Rattle.vol_format.proofs.Leads.{spot, Reach, reach_more}
use Rattle.vol_format.proofs.Meshes.{mesh_form}
use Rattle.vol_format.proofs.Derived.{text_read, reach_front, front_reach, reach_derives, read_front, text_is_read, wants_asked, asked_wanted}
use Rattle.vol_format.proofs.PointNumbers.{known_passes, misnamed_refused}

-- ---- the refusal of a word, by what is needed

-- a whole number that is no count is past the limit
pub past_limit : (w : Word) → is_whole w ≡ true → got 0 NeedCount w ≡ None → MOST_ROWS < value_of w
past_limit w whole none = by_order (nat_le (value_of w) MOST_ROWS) refl
  where
    by_order : (b : Bool) → nat_le (value_of w) MOST_ROWS ≡ b → MOST_ROWS < value_of w
    by_order true e = let some : whole_of w MOST_ROWS ≡ Some (value_of w) = rw (whole, e) refl in absurd cc
    by_order false e = leb-false (value_of w) MOST_ROWS e

pub not_both : (b : Bool) → b ≡ true → b ≡ false → ⊥
not_both b p q = let both : true ≡ false = sym p ∙ q in absurd cc

refused_word : (need : Need) (v : Given need) (at : ℕ) (w : Word) → (IsNumber (item_of need v) → ⊥) → refused need at w ≡ Syntax at
refused_word (NeedWord text) v at w never = refl
refused_word (NeedNumber least greatest) v at w never = absurd (never tt)
refused_word NeedPoint v at w never = absurd (never tt)
refused_word NeedCount v at w never = absurd (never tt)
refused_word (NeedPlace greatest) v at w never = absurd (never tt)

no_count : (b : Bool) (v at : ℕ) (w : Word) → is_whole w ≡ b → got 0 NeedCount w ≡ None → (PassesLimit w (Number Count v) → ⊥) → refused NeedCount at w ≡ NumberAt at
no_count true v at w e none never = absurd (never (told_whole w e, past_limit w e none))
no_count false v at w e none never = rw e refl

refused_number : (k : ℕ) (need : Need) (v : Given need) (at : ℕ) (w : Word) → got k need w ≡ None → IsNumber (item_of need v) → (PassesLimit w (item_of need v) → ⊥) → refused need at w ≡ NumberAt at
refused_number k (NeedWord text) v at w none is never = absurd is
refused_number k (NeedNumber least greatest) v at w none is never = refl
refused_number k NeedPoint v at w none is never = refl
refused_number k NeedCount v at w none is never = no_count (is_whole w) v at w refl none never
refused_number k (NeedPlace greatest) v at w none is never = refl

refused_count : (need : Need) (v : Given need) (at : ℕ) (w : Word) → PassesLimit w (item_of need v) → refused need at w ≡ TooMany at
refused_count (NeedWord text) v at w passes = absurd passes
refused_count (NeedNumber least greatest) v at w passes = absurd passes
refused_count NeedPoint v at w passes = absurd passes
refused_count NeedCount v at w passes = rw (whole_told w passes.0) refl
refused_count (NeedPlace greatest) v at w passes = absurd passes

-- ---- each refusal is what reading gives

wrong_word : (k at : ℕ) (need : Need) (form : Given need → Form Mesh) (w : Word) (after : List Word) → got k need w ≡ None → ended (run (Ask need form) (spot k at (w ∷ after))) ≡ Err (refused need at w)
unfolding asked
wrong_word k at need form w after none = rw none refl

missing_word : (k at : ℕ) (need : Need) (form : Given need → Form Mesh) → ended (run (Ask need form) (spot k at [])) ≡ Err (Syntax at)
unfolding asked
missing_word k at need form = refl

-- what is left where a text stops
record Here (shift : ℤ) (words : List Word) (at : ℕ) (w : Word) (before after : List Word) : Type 0 where
  left : Form Mesh
  reach : Reach (places shift) (mesh_form shift) before left
  read : text_read shift words ≡ ended (run left (spot (places shift) at (w ∷ after)))
  none : (need : Need) (form : Given need → Form Mesh) → left ≡ Ask need form → got (places shift) need w ≡ None

nothing_got : (shift : ℤ) (before : List Word) (w : Word) (need : Need) (form : Given need → Form Mesh) (o : Option (Given need)) → (IsFront shift (before ++ w ∷ []) → ⊥) → Reach (places shift) (mesh_form shift) before (Ask need form)
    → got (places shift) need w ≡ o → o ≡ None
nothing_got shift before w need form None stop reach e = refl
nothing_got shift before w need form (Some v) stop reach e = absurd (stop (reach_front shift (before ++ w ∷ []) (form v) (reach_more (places shift) (mesh_form shift) need form before w v reach e)))

here : (shift : ℤ) (words : List Word) (at : ℕ) (w : Word) (s : Stops shift words at w) → Here shift words at w s.before s.after
here shift words at w s =
    let r = front_reach shift s.before s.front in
    let place : 1 + length s.before ≡ at = omega (arith, s.place) in
    record {
      left = r.left;
      reach = r.reach;
      read = ap (text_read shift) s.same ∙ read_front shift s.before (w ∷ s.after) r.left r.reach ∙ ap (λ (n : ℕ). ended (run r.left (spot (places shift) n (w ∷ s.after)))) place;
      none = λ need form is. nothing_got shift s.before w need form (got (places shift) need w) s.stop (subst (λ (g : Form Mesh). Reach (places shift) (mesh_form shift) s.before g) is r.reach) refl;
    }

syntax_left : (shift : ℤ) (before : List Word) (at : ℕ) (w : Word) (after : List Word) (left : Form Mesh) → Reach (places shift) (mesh_form shift) before left → ((need : Need) (form : Given need → Form Mesh) → left ≡ Ask need form → got (places shift) need w ≡ None)
    → ((item : Item) → Wants shift before item → IsNumber item → ⊥) → ended (run left (spot (places shift) at (w ∷ after))) ≡ Err (Syntax at)
syntax_left shift before at w after (Leaf a) reach none never = refl
syntax_left shift before at w after (Ask need form) reach none never =
    let wanted = asked_wanted shift before need form reach in
    wrong_word (places shift) at need form w after (none need form refl) ∙ ap (λ (e : VolRefusal). Err e) (refused_word need wanted.value at w (never (item_of need wanted.value) wanted.wants))

syntax_back : (shift : ℤ) (words : List Word) (at : ℕ) (w : Word) (s : Stops shift words at w) → ((item : Item) → Wants shift s.before item → IsNumber item → ⊥) → text_read shift words ≡ Err (Syntax at)
syntax_back shift words at w s never = let h = here shift words at w s in h.read ∙ syntax_left shift s.before at w s.after h.left h.reach h.none never

-- where something is wanted, the word is refused by what is needed
asked_back : (shift : ℤ) (words : List Word) (at : ℕ) (w : Word) (s : Stops shift words at w) (item : Item) → Wants shift s.before item → (need : Need) × (v : Given need) × (item ≡ item_of need v) × (got (places shift) need w ≡ None) × (text_read shift words ≡ Err (refused need at w))
asked_back shift words at w s item wants =
    let h = here shift words at w s in
    let a = wants_asked shift s.before h.left item h.reach wants in
    let none = h.none a.need a.form a.is in
    (a.need, a.value, a.same, none, h.read ∙ ap (λ (g : Form Mesh). ended (run g (spot (places shift) at (w ∷ s.after)))) a.is ∙ wrong_word (places shift) at a.need a.form w s.after none)

misses_left : (shift : ℤ) (words : List Word) (at : ℕ) (left : Form Mesh) → Reach (places shift) (mesh_form shift) words left → ((m : Mesh) → Derives shift words m → ⊥) → ended (run left (spot (places shift) at [])) ≡ Err (Syntax at)
misses_left shift words at (Leaf a) reach stop = absurd (stop a (reach_derives shift words a reach))
misses_left shift words at (Ask need form) reach stop = missing_word (places shift) at need form

misses_back : (shift : ℤ) (words : List Word) (at : ℕ) → Misses shift words at → text_read shift words ≡ Err (Syntax at)
misses_back shift words at m =
    let r = front_reach shift words m.front in
    let place : 1 + length words ≡ at = omega (arith, m.place) in
    ap (text_read shift) (sym (append-nil words)) ∙ read_front shift words [] r.left r.reach ∙ ap (λ (n : ℕ). ended (run r.left (spot (places shift) n []))) place ∙ misses_left shift words at r.left r.reach m.stop

pub refuses_back : (shift : ℤ) (words : List Word) (e : VolRefusal) → e ≢ Memory → Refuses shift words e → mesh_of shift words ≡ Err e
unfolding mesh_of
refuses_back shift words (Syntax at) some (inl (w, s, never)) = ap known (syntax_back shift words at w s never)
refuses_back shift words (Syntax at) some (inr m) = ap known (misses_back shift words at m)
refuses_back shift words (NumberAt at) some (w, s, item, wants, is, never) =
    let (need, v, same, none, read) = asked_back shift words at w s item wants in
    let refusal = refused_number (places shift) need v at w none (subst IsNumber same is) (λ p. never (subst (λ (i : Item). PassesLimit w i) (sym same) p)) in
    ap known (read ∙ ap (λ (e : VolRefusal). Err e) refusal)
refuses_back shift words (TooMany at) some (w, s, item, wants, passes) =
    let (need, v, same, none, read) = asked_back shift words at w s item wants in
    ap known (read ∙ ap (λ (e : VolRefusal). Err e) (refused_count need v at w (subst (λ (i : Item). PassesLimit w i) same passes)))
refuses_back shift words (BadIndex at) some (m, derives, mis) = ap known (text_is_read shift words m derives) ∙ misnamed_refused m at mis
refuses_back shift words Memory some r = absurd (some refl)

pub derives_back : (shift : ℤ) (words : List Word) (m : Mesh) → Derives shift words m → Known m → mesh_of shift words ≡ Ok m
unfolding mesh_of
derives_back shift words m derives each = ap known (text_is_read shift words m derives) ∙ known_passes m each

pub one_refusal : (shift : ℤ) (words : List Word) (e f : VolRefusal) → e ≢ Memory → f ≢ Memory → Refuses shift words e → Refuses shift words f → e ≡ f
one_refusal shift words e f p q r s =
    let both : Err e ≡ Err f = sym (refuses_back shift words e p r) ∙ refuses_back shift words f q s in
    cc

pub no_refusal : (shift : ℤ) (words : List Word) (m : Mesh) (f : VolRefusal) → f ≢ Memory → Derives shift words m → Known m → Refuses shift words f → ⊥
no_refusal shift words m f q derives each s =
    let both : Ok m ≡ Err f = sym (derives_back shift words m derives each) ∙ refuses_back shift words f q s in
    absurd cc
