-- What is read to its end is a text, and each text is read to its end.
use Rattle.std.proofs.Common.{◌≡◌, ℕ, ◌+◌, List, [], ◌∷◌, ◌++◌, length, Result, Ok, refl, sym, ap, subst, ◌∙◌, arith}
use Rattle.std.specs.Prelude.{ℤ}
use Rattle.std.specs.List.{AllZip}
use Rattle.std.proofs.lemmas.List.{append-nil}
use Rattle.vol_format.specs.declared.Mesh.{Mesh}
use Rattle.vol_format.specs.declared.refusal.VolRefusal.{VolRefusal}
use Rattle.vol_format.specs.Vol.{places}
use Rattle.vol_format.specs.Text.{Word, Item, Says, mesh_items, Derives}
use Rattle.vol_format.specs.Refusals.{IsFront, Wants}
use Rattle.vol_format.specs.Reading.{Need, Given, Form, Leaf, Ask, State, and_then, run, elements_form, edges_form, points_form, ending_form, mesh_at, ended, at_start}
use Rattle.vol_format.proofs.Asks.{item_of}
use Rattle.vol_format.proofs.Forms.{run_then, then_same}
use Rattle.vol_format.proofs.Leads.{spot, Leads, Reach, Text, Split, split, join, reach_run, reach_one, reach_good, some_text}
use Rattle.vol_format.proofs.Meshes.{after_points, after_edges, after_elements, mesh_form, mesh_sound, mesh_whole}
use Rattle.vol_format.proofs.Texts.{good_mesh}

-- the form of a mesh's text is read as the reader reads it
run_mesh : (shift : ℤ) (st : State) → run (mesh_form shift) st ≡ mesh_at shift st
unfolding mesh_at
run_mesh shift st =
    run_then elements_form (λ elements. after_elements shift elements) st
    ∙ then_same (run elements_form st) (λ elements a. run (after_elements shift elements) a) (λ elements a. and_then (run edges_form a) (λ edges b. and_then (run points_form b) (λ points c. and_then (run ending_form c) (λ u d. Ok (record { shift = shift; points = points; edges = edges; elements = elements }, d))))) (λ elements a.
    run_then edges_form (λ edges. after_edges shift elements edges) a
    ∙ then_same (run edges_form a) (λ edges b. run (after_edges shift elements edges) b) (λ edges b. and_then (run points_form b) (λ points c. and_then (run ending_form c) (λ u d. Ok (record { shift = shift; points = points; edges = edges; elements = elements }, d)))) (λ edges b.
    run_then points_form (λ points. after_points shift elements edges points) b
    ∙ then_same (run points_form b) (λ points c. run (after_points shift elements edges points) c) (λ points c. and_then (run ending_form c) (λ u d. Ok (record { shift = shift; points = points; edges = edges; elements = elements }, d))) (λ points c.
    run_then ending_form (λ u. Leaf (record { shift = shift; points = points; edges = edges; elements = elements })) c)))

-- what is read of the words, up to their end
abbrev pub text_read : ℤ → List Word → Result Mesh VolRefusal
text_read shift words = ended (mesh_at shift (at_start (places shift) words))

pub as_run : (shift : ℤ) (words : List Word) → ended (run (mesh_form shift) (spot (places shift) 1 words)) ≡ text_read shift words
as_run shift words = ap ended (run_mesh shift (spot (places shift) 1 words))

-- ---- texts

pub text_derives : (shift : ℤ) (words : List Word) (m : Mesh) → Text (places shift) (mesh_form shift) words m → Derives shift words m
text_derives shift words m t =
    let s = mesh_sound shift t.items m t.leads in
    record { shifted = s.shifted; says = subst (λ (is : List Item). AllZip (Says (places shift)) words is) s.same t.says; ranges = s.ranges }

pub derives_leads : (shift : ℤ) (words : List Word) (m : Mesh) → Derives shift words m → Leads (mesh_form shift) (mesh_items m) m
derives_leads shift words m d = subst (λ (z : ℤ). Leads (mesh_form z) (mesh_items m) m) d.shifted (mesh_whole m d.ranges)

-- behind a front the rest of the text is left
pub derives_split : (shift : ℤ) (before rest : List Word) (m : Mesh) → Derives shift (before ++ rest) m → Split (places shift) (mesh_form shift) m (mesh_items m) before rest
derives_split shift before rest m d = split (places shift) (mesh_form shift) m (mesh_items m) before rest (derives_leads shift (before ++ rest) m d) d.says

-- from what is left on a text goes on
pub reach_front : (shift : ℤ) (before : List Word) (g : Form Mesh) → Reach (places shift) (mesh_form shift) before g → IsFront shift before
reach_front shift before g reach =
    let k = places shift in
    let t = some_text k g (reach_good k (mesh_form shift) g before reach (good_mesh k shift)) in
    (t.0, t.1, text_derives shift (before ++ t.0) t.1 (join k (mesh_form shift) g t.1 before t.0 reach t.2))

pub record At (shift : ℤ) (before : List Word) : Type 0 where
  pub left : Form Mesh
  pub reach : Reach (places shift) (mesh_form shift) before left

pub front_reach : (shift : ℤ) (before : List Word) → IsFront shift before → At shift before
front_reach shift before front = let s = derives_split shift before front.0 front.1 front.2 in record { left = s.left; reach = s.reach }

-- behind words that lead to a mesh nothing may be left
leaf_end : (shift : ℤ) (words : List Word) (m : Mesh) → Reach (places shift) (mesh_form shift) words (Leaf m) → Derives shift words m
leaf_end shift words m reach =
    let t = join (places shift) (mesh_form shift) (Leaf m) m words [] reach (record { items = []; leads = (refl, refl); says = tt }) in
    text_derives shift words m (subst (λ (ws : List Word). Text (places shift) (mesh_form shift) ws m) (append-nil words) t)

pub reach_derives : (shift : ℤ) (words : List Word) (m : Mesh) → Reach (places shift) (mesh_form shift) words (Leaf m) → Derives shift words m
reach_derives shift words m reach = leaf_end shift words m reach

-- what a mesh's text leaves at its end
left_end : (k : ℕ) (g : Form Mesh) (m : Mesh) (back : List Item) → Leads g back m → AllZip (Says k) [] back → g ≡ Leaf m
left_end k (Leaf b) m back leads says = ap (λ (x : Mesh). Leaf x) leads.1
left_end k (Ask need form) m back leads says = absurd (subst (λ (is : List Item). AllZip (Says k) [] is) leads.2 says)

pub derives_reach : (shift : ℤ) (words : List Word) (m : Mesh) → Derives shift words m → Reach (places shift) (mesh_form shift) words (Leaf m)
derives_reach shift words m d =
    let s = derives_split shift words [] m (subst (λ (ws : List Word). Derives shift ws m) (sym (append-nil words)) d) in
    subst (λ (g : Form Mesh). Reach (places shift) (mesh_form shift) words g) (left_end (places shift) s.left m s.back s.leads s.says) s.reach

-- reading goes on behind a front with what is left
pub read_front : (shift : ℤ) (before words : List Word) (g : Form Mesh) → Reach (places shift) (mesh_form shift) before g → text_read shift (before ++ words) ≡ ended (run g (spot (places shift) (1 + length before) words))
read_front shift before words g reach = sym (as_run shift (before ++ words)) ∙ ap ended (reach_run (places shift) 1 (mesh_form shift) g before words reach)

pub text_is_read : (shift : ℤ) (words : List Word) (m : Mesh) → Derives shift words m → text_read shift words ≡ Ok m
text_is_read shift words m d = ap (text_read shift) (sym (append-nil words)) ∙ read_front shift words [] (Leaf m) (derives_reach shift words m d)

-- no text has two meshes
pub one_mesh : (shift : ℤ) (words : List Word) (a b : Mesh) → Derives shift words a → Derives shift words b → a ≡ b
one_mesh shift words a b d e =
    let both : Ok a ≡ Ok b = sym (text_is_read shift words a d) ∙ text_is_read shift words b e in
    cc

-- ---- what is wanted

pub record Asked (g : Form Mesh) (item : Item) : Type 0 where
  pub need : Need
  pub form : Given need → Form Mesh
  pub is : g ≡ Ask need form
  pub value : Given need
  pub same : item ≡ item_of need value

first_asked : (g : Form Mesh) (m : Mesh) (item : Item) (others : List Item) → Leads g (item ∷ others) m → Asked g item
first_asked (Leaf b) m item others leads = let none : item ∷ others ≡ [] = leads.0 in absurd cc
first_asked (Ask need form) m item others leads =
    let both : item ∷ others ≡ item_of need leads.0 ∷ leads.1 = leads.2 in
    record { need = need; form = form; is = refl; value = leads.0; same = cc }

-- lists that begin alike and are as long
tail_of : (a b c d : List Item) → a ++ b ≡ c ++ d → length a ≡ length c → b ≡ d
tail_of [] b [] d e long = e
tail_of [] b (y ∷ c) d e long = absurd (omega (arith, long))
tail_of (x ∷ a) b [] d e long = absurd (omega (arith, long))
tail_of (x ∷ a) b (y ∷ c) d e long = let rest : a ++ b ≡ c ++ d = cc in tail_of a b c d rest (omega (arith, long))

pub wants_asked : (shift : ℤ) (before : List Word) (g : Form Mesh) (item : Item) → Reach (places shift) (mesh_form shift) before g → Wants shift before item → Asked g item
wants_asked shift before g item reach w =
    let k = places shift in
    let s = derives_split shift before w.rest w.mesh w.text in
    let one : s.left ≡ g = reach_one k (mesh_form shift) s.left g before s.reach reach in
    let back : s.back ≡ item ∷ w.back = tail_of s.front s.back w.front (item ∷ w.back) (sym s.same ∙ w.same) (s.long ∙ sym w.place) in
    first_asked g w.mesh item w.back (subst (λ (h : Form Mesh). Leads h (item ∷ w.back) w.mesh) one (subst (λ (is : List Item). Leads s.left is w.mesh) back s.leads))

pub record Wanted (shift : ℤ) (before : List Word) (need : Need) : Type 0 where
  pub value : Given need
  pub wants : Wants shift before (item_of need value)

wanted_by : (shift : ℤ) (before rest : List Word) (m : Mesh) (need : Need) (form : Given need → Form Mesh) (front back : List Item) → Derives shift (before ++ rest) m → mesh_items m ≡ front ++ back → length front ≡ length before → Leads (Ask need form) back m → Wanted shift before need
wanted_by shift before rest m need form front back d same long leads =
    record { value = leads.0; wants = record { rest = rest; mesh = m; text = d; front = front; back = leads.1; same = same ∙ ap (λ (is : List Item). front ++ is) leads.2; place = long } }

pub asked_wanted : (shift : ℤ) (before : List Word) (need : Need) (form : Given need → Form Mesh) → Reach (places shift) (mesh_form shift) before (Ask need form) → Wanted shift before need
asked_wanted shift before need form reach =
    let k = places shift in
    let f = reach_front shift before (Ask need form) reach in
    let s = derives_split shift before f.0 f.1 f.2 in
    let one : s.left ≡ Ask need form = reach_one k (mesh_form shift) s.left (Ask need form) before s.reach reach in
    wanted_by shift before f.0 f.1 need form s.front s.back f.2 s.same s.long (subst (λ (h : Form Mesh). Leads h s.back f.1) one s.leads)
