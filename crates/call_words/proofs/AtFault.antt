-- The first word that is at fault, numbers and names among them.
--
-- A word leads on where the walk does, each option that is set has a value, and the word may be the place that it is,
-- if it is one (`place_on`, `other_on`). Where it leads on some words fit behind it (`some_fit`): the value of an option
-- that waits, and the places that are missing.
use Rattle.std.proofs.Common.{◌≡◌, ◌≢◌, ◌⊎◌, inl, inr, ℕ, zero, suc, ◌+◌, ◌-◌, ◌<◌, Bool, true, false, cond, eqb, List, [], ◌∷◌, length, Option, Some, None, map, string_bytes, refl, sym, ap, ◌∙◌, subst, arith, pos}
use Rattle.std.proofs.lemmas.Int.{ints}
use Rattle.std.specs.Prelude.{option_map, String, ◌&&◌}
use Rattle.word_scan.specs.declared.decimals.Dec.{Dec}
use Rattle.word_scan.specs.Decimals.{decimal_of}
use Rattle.call_words.specs.declared.command.Verb.{Verb}
use Rattle.call_words.specs.declared.command.Verb.TheVariants as verbs
use Rattle.call_words.specs.declared.command.MeshOptions.{MeshOptions}
use Rattle.call_words.specs.declared.settings.Setting.{Setting}
use Rattle.call_words.specs.declared.settings.Setting.TheVariants.{Maxh, Grading, Class, Steps}
use Rattle.call_words.specs.CommandLine.{setting_word, Given, nothing_given, word_given, with_word}
use Rattle.call_words.specs.Commands.{verb_word, place_count, IsForm, Task, MeshOf, GeomOf, RulesOf, CheckOf, ViewOf, ReplayOf, GenOf, verb_of, IsWholeFrom, IsSize, HasValue, AreOptions, StandFor, HasOneName}
use Rattle.call_words.specs.WordsRead.{with_place, reading}
use Rattle.call_words.specs.Forms.{takes_options}
use Rattle.call_words.specs.Begun.{Begins, IsFirstOff, IsVerbAnd, Differ, StandsFor}
use Rattle.call_words.specs.Walks.{Walk, at_start, set_to, walked_on, read_behind, IsSound, range_of, IsInRange, IsRight, mesh_behind, AreRight, Course, FitsRight, IsOnCourse, LeadsTo}
use Rattle.call_words.proofs.WordsRead.{some_of, none_some, mapped, ReadsFrom, reads_from, read_again}
use Rattle.call_words.proofs.Options.{keeps}
use Rattle.call_words.proofs.FirstOff.{no_text, at_once, later, alike}
use Rattle.call_words.proofs.Misfits.{IsPlaceStep, IsNoPlaceStep, same, off, starts, bare_where, formed}

abbrev Words : Type 0
Words = List (List ℕ)

abbrev Found : Type 0
Found = Words × Given

abbrev Name : Type 0
Name = Option (List ℕ)

abbrev pub at : Walk → Bool → Name → Course
at walk names mesh = record { walk = walk; names = names; mesh = mesh }

-- ---- a word that is a place

place_back : (verb : Verb) (walk next : Walk) (names : Bool) (mesh : Name) (word : List ℕ) → IsPlaceStep walk word next → (more : Words) → FitsRight verb (at walk names mesh) (word ∷ more) → IsRight verb walk.passed mesh word × FitsRight verb (at next names (mesh_behind names walk.passed word mesh)) more
place_back verb walk next names mesh word s more f =
    let m = mapped (λ (g : Found). (word ∷ g.0, g.1)) (read_behind next more) (f.places, f.all) (sym (s.1 more) ∙ f.read) in
    let places : word ∷ m.0.0 ≡ f.places = ap (λ (g : Found). g.0) m.2 in
    let all : m.0.1 ≡ f.all = ap (λ (g : Found). g.1) m.2 in
    let long : suc (length m.0.0) ≡ length f.places = ap (λ (ps : Words). length ps) places in
    let right : IsRight verb walk.passed mesh word × AreRight verb names (walk.passed + 1) (mesh_behind names walk.passed word mesh) m.0.0 = subst (λ (ps : Words). AreRight verb names walk.passed mesh ps) (sym places) f.right in
    let n = f.count in
    let one = s.0 in (
      right.0,
      record {
        places = m.0.0;
        all = m.0.1;
        read = m.1;
        count = omega arith;
        bare = λ o. all ∙ f.bare o;
        right = subst (λ k. AreRight verb names k (mesh_behind names walk.passed word mesh) m.0.0) (sym one) right.1;
        options = f.options;
        values = subst (λ (g : Given). AreOptions g f.options) (sym all) f.values;
      },
    )

pub place_on : (verb : Verb) (walk next : Walk) (names : Bool) (mesh : Name) (word : List ℕ) → IsPlaceStep walk word next → IsRight verb walk.passed mesh word → IsOnCourse verb (at next names (mesh_behind names walk.passed word mesh)) → LeadsTo verb (at walk names mesh) word (at next names (mesh_behind names walk.passed word mesh))
place_on verb walk next names mesh word s right still = record {
  on = λ more f. let n = f.count in let one = s.0 in record {
    places = word ∷ f.places;
    all = f.all;
    read = s.1 more ∙ ap (with_place word) f.read;
    count = omega arith;
    bare = f.bare;
    right = (right, subst (λ k. AreRight verb names k (mesh_behind names walk.passed word mesh) f.places) s.0 f.right);
    options = f.options;
    values = f.values;
  };
  back = λ more f. (place_back verb walk next names mesh word s more f).1;
  still = still;
}

-- ---- a word that is none

other_back : (verb : Verb) (walk next : Walk) (names : Bool) (mesh : Name) (word : List ℕ) → IsNoPlaceStep walk word next → (more : Words) → FitsRight verb (at walk names mesh) (word ∷ more) → FitsRight verb (at next names mesh) more
other_back verb walk next names mesh word s more f = let n = f.count in let one = s.0 in record {
  places = f.places;
  all = f.all;
  read = sym (s.1 more) ∙ f.read;
  count = omega arith;
  bare = f.bare;
  right = subst (λ k. AreRight verb names k mesh f.places) (sym s.0) f.right;
  options = f.options;
  values = f.values;
}

pub other_on : (verb : Verb) (walk next : Walk) (names : Bool) (mesh : Name) (word : List ℕ) → IsNoPlaceStep walk word next → IsOnCourse verb (at next names mesh) → LeadsTo verb (at walk names mesh) word (at next names mesh)
other_on verb walk next names mesh word s still = record {
  on = λ more f. let n = f.count in let one = s.0 in record {
    places = f.places;
    all = f.all;
    read = s.1 more ∙ f.read;
    count = omega arith;
    bare = f.bare;
    right = subst (λ k. AreRight verb names k mesh f.places) s.0 f.right;
    options = f.options;
    values = f.values;
  };
  back = other_back verb walk next names mesh word s;
  still = still;
}

-- ---- options that are set stay so

keeps_from : (waits : Option (List ℕ)) (given : Given) (words places : Words) (all : Given) → ReadsFrom waits given words places all → (x : Setting) (v : List ℕ) → word_given x given ≡ Some v → word_given x all ≡ Some v
keeps_from None given words places all r x v e = keeps r x v e
keeps_from (Some name) given words places all r x v e = keeps r x v e

keeps_behind : (walk : Walk) (words places : Words) (all : Given) → read_behind walk words ≡ Some (places, all) → (x : Setting) (v : List ℕ) → word_given x walk.given ≡ Some v → word_given x all ≡ Some v
keeps_behind walk words places all e x v is = go walk.alone e
  where
    go : (alone : Bool) → cond alone (Some (words, walk.given)) (reading (option_map setting_word walk.waits) walk.given words) ≡ Some (places, all) → word_given x all ≡ Some v
    go true e = let same : walk.given ≡ all = ap (λ (f : Found). f.1) (some_of (words, walk.given) (places, all) e) in ap (word_given x) (sym same) ∙ is
    go false e = keeps_from (option_map setting_word walk.waits) walk.given words places all (reads_from words (option_map setting_word walk.waits) walk.given places all e) x v is

one_value : {A : Type 0} (Writes : List ℕ → A → Type 0) (now after : Option (List ℕ)) (value : Option A) → ((v : List ℕ) → now ≡ Some v → after ≡ Some v) → HasValue Writes after value → (x : Option A) × HasValue Writes now x
one_value Writes None after value stay h = (None, refl)
one_value Writes (Some word) after value stay h = (value, subst (λ (w : Option (List ℕ)). HasValue Writes w value) (stay word refl) h)

-- fewer options have values too
pub fewer : (given all : Given) (options : MeshOptions) → ((x : Setting) (v : List ℕ) → word_given x given ≡ Some v → word_given x all ≡ Some v) → AreOptions all options → (some : MeshOptions) × AreOptions given some
fewer given all options stay values =
    let m = one_value IsSize given.maxh all.maxh options.maxh (stay Maxh) values.maxh in
    let g = one_value (IsWholeFrom 0 10000) given.grading all.grading options.grading (stay Grading) values.grading in
    let c = one_value (IsWholeFrom 1 16) given.class all.class options.class (stay Class) values.class in
    let s = one_value (IsWholeFrom 0 1000000000000) given.steps all.steps options.steps (stay Steps) values.steps in
    (record { maxh = m.0; grading = g.0; class = c.0; steps = s.0 }, record { maxh = m.1; grading = g.1; class = c.1; steps = s.1 })

have_values : (verb : Verb) (walk : Walk) (names : Bool) (mesh : Name) (words : Words) → FitsRight verb (at walk names mesh) words → (some : MeshOptions) × AreOptions walk.given some
have_values verb walk names mesh words f = fewer walk.given f.all f.options (keeps_behind walk words f.places f.all f.read) f.values

-- ---- a word that leads nowhere

pub no_step : (verb : Verb) (walk : Walk) (names : Bool) (mesh : Name) (word : List ℕ) → walked_on verb walk word ≡ None → (more : Words) → ¬ FitsRight verb (at walk names mesh) (word ∷ more)
no_step verb walk names mesh word none more f = off verb walk word none more (record { places = f.places; all = f.all; read = f.read; count = f.count; options = f.bare })

pub no_value : (verb : Verb) (walk next : Walk) (names : Bool) (mesh : Name) (word : List ℕ) → walked_on verb walk word ≡ Some next → IsSound verb walk → ((options : MeshOptions) → ¬ AreOptions next.given options) → (more : Words) → ¬ FitsRight verb (at walk names mesh) (word ∷ more)
no_value verb walk next names mesh word e sound never more f = go (same verb walk word next e sound).step
  where
    go : IsPlaceStep walk word next ⊎ IsNoPlaceStep walk word next → ⊥
    go (inl s) = let v = have_values verb next names _ more (place_back verb walk next names mesh word s more f).1 in never v.0 v.1
    go (inr s) = let v = have_values verb next names _ more (other_back verb walk next names mesh word s more f) in never v.0 v.1

-- where a place more is passed, the word is it
is_place : (verb : Verb) (walk next : Walk) (word : List ℕ) → walked_on verb walk word ≡ Some next → IsSound verb walk → next.passed ≢ walk.passed → IsPlaceStep walk word next
is_place verb walk next word e sound more = go (same verb walk word next e sound).step
  where
    go : IsPlaceStep walk word next ⊎ IsNoPlaceStep walk word next → IsPlaceStep walk word next
    go (inl s) = s
    go (inr s) = absurd (more s.0)

is_no_place : (verb : Verb) (walk next : Walk) (word : List ℕ) → walked_on verb walk word ≡ Some next → IsSound verb walk → next.passed ≡ walk.passed → IsNoPlaceStep walk word next
is_no_place verb walk next word e sound still = go (same verb walk word next e sound).step
  where
    go : IsPlaceStep walk word next ⊎ IsNoPlaceStep walk word next → IsNoPlaceStep walk word next
    go (inl s) = let one = s.0 in absurd (omega arith)
    go (inr s) = s

pub no_right_place : (verb : Verb) (walk next : Walk) (names : Bool) (mesh : Name) (word : List ℕ) → walked_on verb walk word ≡ Some next → IsSound verb walk → next.passed ≢ walk.passed → ¬ IsRight verb walk.passed mesh word → (more : Words) → ¬ FitsRight verb (at walk names mesh) (word ∷ more)
no_right_place verb walk next names mesh word e sound more wrong words f = wrong (place_back verb walk next names mesh word (is_place verb walk next word e sound more) words f).0

-- ---- where it leads

kept_nameless : (names : Bool) (place : ℕ) (word : List ℕ) (mesh : Name) → (names ≡ false → mesh ≡ None) → names ≡ false → mesh_behind names place word mesh ≡ None
kept_nameless names place word mesh nameless bare = rw bare (nameless bare)

pub leads_by_place : (verb : Verb) (course : Course) (next : Walk) (word : List ℕ) → IsOnCourse verb course → walked_on verb course.walk word ≡ Some next → next.passed ≢ course.walk.passed → (some : MeshOptions) × AreOptions next.given some → IsRight verb course.walk.passed course.mesh word → LeadsTo verb course word (at next course.names (mesh_behind course.names course.walk.passed word course.mesh))
leads_by_place verb course next word on e more values right = place_on verb course.walk next course.names course.mesh word (is_place verb course.walk next word e on.sound more) right (record {
  sound = (same verb course.walk word next e on.sound).sound;
  options = values.0;
  values = values.1;
  own = on.own;
  nameless = kept_nameless course.names course.walk.passed word course.mesh on.nameless;
})

pub leads_by_other : (verb : Verb) (course : Course) (next : Walk) (word : List ℕ) → IsOnCourse verb course → walked_on verb course.walk word ≡ Some next → next.passed ≡ course.walk.passed → (some : MeshOptions) × AreOptions next.given some → LeadsTo verb course word (at next course.names course.mesh)
leads_by_other verb course next word on e still values = other_on verb course.walk next course.names course.mesh word (is_no_place verb course.walk next word e on.sound still) (record {
  sound = (same verb course.walk word next e on.sound).sound;
  options = values.0;
  values = values.1;
  own = on.own;
  nameless = on.nameless;
})

-- ---- some words fit

-- a word that is right in any place: a `1`, and behind it the mesh's name, where names are looked at
abbrev tail : Bool → Name → List ℕ
tail false mesh = []
tail true None = []
tail true (Some name) = name

abbrev filler : Bool → Name → List ℕ
filler names mesh = 49 ∷ tail names mesh

abbrev fill : Bool → ℕ → ℕ → Name → Words
fill names zero place mesh = []
fill names (suc n) place mesh = filler names mesh ∷ fill names n (place + 1) (mesh_behind names place (filler names mesh) mesh)

filled : (names : Bool) (n place : ℕ) (mesh : Name) → length (fill names n place mesh) ≡ n
filled names zero place mesh = refl
filled names (suc n) place mesh = ap suc (filled names n (place + 1) (mesh_behind names place (filler names mesh) mesh))

fill_read : (names : Bool) (n place : ℕ) (mesh : Name) (given : Given) → reading None given (fill names n place mesh) ≡ Some (fill names n place mesh, given)
unfolding reading
fill_read names zero place mesh given = refl
fill_read names (suc n) place mesh given = ap (with_place (filler names mesh)) (fill_read names n (place + 1) (mesh_behind names place (filler names mesh) mesh) given)

longer_differs : (xs ys : List ℕ) → xs ≡ 49 ∷ ys → xs ≡ ys → ⊥
longer_differs xs ys e same = let n : length xs ≡ suc (length ys) = ap (λ (l : List ℕ). length l) e in let m : length xs ≡ length ys = ap (λ (l : List ℕ). length l) same in absurd (omega arith)

mesh_differs : (mesh : Name) → mesh ≢ Some (49 ∷ tail true mesh)
mesh_differs None e = none_some _ e
mesh_differs (Some name) e = longer_differs name name (some_of name (49 ∷ name) e) refl

view_one : (a b : Bool) → IsInRange (cond a (Some (1, 64)) (cond b (Some (0, 1000000000000)) None)) (49 ∷ [])
view_one true b = (1, record { written = refl; enough = omega arith })
view_one false true = (1, record { written = refl; enough = omega arith })
view_one false false = tt

gen_one : (a b : Bool) → IsInRange (cond a (Some (1, 8)) (cond b (Some (1, 16)) None)) (49 ∷ [])
gen_one true b = (1, record { written = refl; enough = omega arith })
gen_one false true = (1, record { written = refl; enough = omega arith })
gen_one false false = tt

unnamed : {A : Type 0} (mesh : Name) (word : List ℕ) → mesh ≡ None → mesh ≡ Some word → A
unnamed mesh word none e = none_some word (sym none ∙ e)

other_right : (names : Bool) (mesh : Name) → (names ≡ false → mesh ≡ None) → mesh ≢ Some (filler names mesh)
other_right true mesh h = mesh_differs mesh
other_right false mesh h = unnamed mesh (49 ∷ []) (h refl)

-- a `1`, where names are not looked at
plain_right : (verb : Verb) (names : Bool) (place : ℕ) (mesh : Name) → takes_options verb ≡ false → (names ≡ true → takes_options verb ≡ true) → (names ≡ false → mesh ≡ None) → IsInRange (range_of verb place) (49 ∷ []) → IsRight verb place mesh (filler names mesh)
plain_right verb true place mesh none own h range = let both = own refl in absurd cc
plain_right verb false place mesh none own h range = record { range = range; other = unnamed mesh (49 ∷ []) (h refl) }

filler_right : (verb : Verb) (names : Bool) (place : ℕ) (mesh : Name) → (names ≡ true → takes_options verb ≡ true) → (names ≡ false → mesh ≡ None) → IsRight verb place mesh (filler names mesh)
filler_right verbs.Mesh names place mesh own h = record { range = tt; other = other_right names mesh h }
filler_right verbs.Geom names place mesh own h = plain_right verbs.Geom names place mesh refl own h tt
filler_right verbs.Rules names place mesh own h = plain_right verbs.Rules names place mesh refl own h tt
filler_right verbs.Check names place mesh own h = plain_right verbs.Check names place mesh refl own h tt
filler_right verbs.View names place mesh own h = plain_right verbs.View names place mesh refl own h (view_one (eqb place 1) (eqb place 2))
filler_right verbs.Replay names place mesh own h = plain_right verbs.Replay names place mesh refl own h tt
filler_right verbs.Gen names place mesh own h = plain_right verbs.Gen names place mesh refl own h (gen_one (eqb place 0) (eqb place 1))

fill_right : (verb : Verb) (names : Bool) (n place : ℕ) (mesh : Name) → (names ≡ true → takes_options verb ≡ true) → (names ≡ false → mesh ≡ None) → AreRight verb names place mesh (fill names n place mesh)
fill_right verb names zero place mesh own h = tt
fill_right verb names (suc n) place mesh own h = (filler_right verb names place mesh own h, fill_right verb names n (place + 1) (mesh_behind names place (filler names mesh) mesh) own (kept_nameless names place (filler names mesh) mesh h))

abbrev missing : Verb → Walk → Bool → Name → Words
missing verb walk names mesh = fill names (place_count verb - walk.passed) walk.passed mesh

missing_fit : (verb : Verb) (walk : Walk) (names : Bool) (mesh : Name) → IsOnCourse verb (at walk names mesh) → read_behind walk (missing verb walk names mesh) ≡ Some (missing verb walk names mesh, walk.given) → FitsRight verb (at walk names mesh) (missing verb walk names mesh)
missing_fit verb walk names mesh on read = record {
  places = missing verb walk names mesh;
  all = walk.given;
  read = read;
  count = let few = on.sound.few in let m = filled names (place_count verb - walk.passed) walk.passed mesh in omega arith;
  bare = on.sound.bare;
  right = fill_right verb names (place_count verb - walk.passed) walk.passed mesh on.own on.nameless;
  options = on.options;
  values = on.values;
}

size_one : (size : Dec) × IsSize (49 ∷ []) size
unfolding decimal_of
size_one = (record { digits = pos 1; scale = pos 0 }, record { written = refl; above = omega (arith, ints) })

one_set : (setting : Setting) (given : Given) (options : MeshOptions) → AreOptions given options → (some : MeshOptions) × AreOptions (with_word setting (49 ∷ []) given) some
one_set Maxh given o v = (record o { maxh = Some size_one.0 }, record { maxh = (size_one.0, size_one.1, refl); grading = v.grading; class = v.class; steps = v.steps })
one_set Grading given o v = (record o { grading = Some 1 }, record { maxh = v.maxh; grading = (1, record { written = refl; enough = omega arith }, refl); class = v.class; steps = v.steps })
one_set Class given o v = (record o { class = Some 1 }, record { maxh = v.maxh; grading = v.grading; class = (1, record { written = refl; enough = omega arith }, refl); steps = v.steps })
one_set Steps given o v = (record o { steps = Some 1 }, record { maxh = v.maxh; grading = v.grading; class = v.class; steps = (1, record { written = refl; enough = omega arith }, refl) })

pub some_fit : (verb : Verb) (course : Course) → IsOnCourse verb course → (more : Words) × FitsRight verb course more
some_fit verb course on = go course.walk.alone course.walk.waits refl refl
  where
    walk : Walk
    walk = course.walk

    names : Bool
    names = course.names

    mesh : Name
    mesh = course.mesh

    n : ℕ
    n = place_count verb - walk.passed

    go : (alone : Bool) (waits : Option Setting) → walk.alone ≡ alone → walk.waits ≡ waits → (more : Words) × FitsRight verb (at walk names mesh) more
    go true waits a w = (missing verb walk names mesh, missing_fit verb walk names mesh on (rw a refl))
    go false None a w = (missing verb walk names mesh, missing_fit verb walk names mesh on (rw (a, w) (fill_read names n walk.passed mesh walk.given)))
    go false (Some setting) a w =
        let next : Walk = set_to (49 ∷ []) walk setting in
        let e : walked_on verb walk (49 ∷ []) ≡ Some next = rw (a, w) refl in
        let leads = leads_by_other verb course next (49 ∷ []) on e refl (one_set setting walk.given on.options on.values) in
        let fit = missing_fit verb next names mesh leads.still (rw a (fill_read names n walk.passed mesh next.given)) in
        ((49 ∷ []) ∷ missing verb next names mesh, leads.on (missing verb next names mesh) fit)

-- ---- words after a verb that stand for a task

abbrev none_set : MeshOptions
none_set = record { maxh = None; grading = None; class = None; steps = None }

no_values : AreOptions nothing_given none_set
no_values = record { maxh = refl; grading = refl; class = refl; steps = refl }

nothing_set : (given : Given) → given ≡ nothing_given → (some : MeshOptions) × AreOptions given some
nothing_set given e = (none_set, subst (λ (g : Given). AreOptions g none_set) (sym e) no_values)

-- names are looked at of `mesh` alone
abbrev pub looks : Verb → Bool → Bool
looks verb names = takes_options verb && names

abbrev pub IsWhole : Verb → Bool → Words → Given → Type 0
IsWhole verb names places given = AreRight verb (looks verb names) 0 None places × ((some : MeshOptions) × AreOptions given some)

free : (verb : Verb) (place : ℕ) (word : List ℕ) → IsInRange (range_of verb place) word → IsRight verb place None word
free verb place word range = record { range = range; other = λ e. none_some word e }

four_right : (names : Bool) (g r m l : List ℕ) → (names ≡ true → m ≢ l) → AreRight verbs.Mesh names 0 None (g ∷ r ∷ m ∷ l ∷ [])
four_right true g r m l differ = (free verbs.Mesh 0 g tt, (free verbs.Mesh 1 r tt, (free verbs.Mesh 2 m tt, (record { range = tt; other = λ e. differ refl (some_of m l e) }, tt))))
four_right false g r m l differ = (free verbs.Mesh 0 g tt, (free verbs.Mesh 1 r tt, (free verbs.Mesh 2 m tt, (free verbs.Mesh 3 l tt, tt))))

two_names : (names : Bool) (task : Task) → Differ names task → names ≡ true → ¬ HasOneName task
two_names true task d e = d
two_names false task d e = absurd cc

whole_of_task : (names : Bool) (task : Task) (places : Words) (given : Given) → (takes_options (verb_of task) ≡ false → given ≡ nothing_given) → StandFor places given task → Differ names task → IsWhole (verb_of task) names places given
whole_of_task names (MeshOf t) places given bare h differ = (subst (λ (ps : Words). AreRight verbs.Mesh names 0 None ps) (sym h.0) (four_right names t.geometry t.rules t.mesh t.log (two_names names (MeshOf t) differ)), (t.options, h.1))
whole_of_task names (GeomOf g) places given bare h differ = (subst (λ (ps : Words). AreRight verbs.Geom false 0 None ps) (sym h) (free verbs.Geom 0 g tt, tt), nothing_set given (bare refl))
whole_of_task names (RulesOf r) places given bare h differ = (subst (λ (ps : Words). AreRight verbs.Rules false 0 None ps) (sym h) (free verbs.Rules 0 r tt, tt), nothing_set given (bare refl))
whole_of_task names (CheckOf g m) places given bare h differ = (subst (λ (ps : Words). AreRight verbs.Check false 0 None ps) (sym h) (free verbs.Check 0 g tt, (free verbs.Check 1 m tt, tt)), nothing_set given (bare refl))
whole_of_task names (ViewOf l d s) places given bare h differ = (subst (λ (ps : Words). AreRight verbs.View false 0 None ps) (sym h.2) (free verbs.View 0 l tt, (free verbs.View 1 h.0 (d, h.3), (free verbs.View 2 h.1 (s, h.4), tt))), nothing_set given (bare refl))
whole_of_task names (ReplayOf g r l) places given bare h differ = (subst (λ (ps : Words). AreRight verbs.Replay false 0 None ps) (sym h) (free verbs.Replay 0 g tt, (free verbs.Replay 1 r tt, (free verbs.Replay 2 l tt, tt))), nothing_set given (bare refl))
whole_of_task names (GenOf n m) places given bare h differ = (subst (λ (ps : Words). AreRight verbs.Gen false 0 None ps) (sym h.2) (free verbs.Gen 0 h.0 (n, h.3), (free verbs.Gen 1 h.1 (m, h.4), tt)), nothing_set given (bare refl))

-- a list with one item at least
cut : (n : ℕ) (places : Words) → length places ≡ suc n → (first : List ℕ) × (rest : Words) × (places ≡ first ∷ rest) × (length rest ≡ n)
cut n [] e = absurd (omega arith)
cut n (first ∷ rest) e = (first, rest, refl, omega arith)

empty : (places : Words) → length places ≡ 0 → places ≡ []
empty [] e = refl
empty (first ∷ rest) e = absurd (omega arith)

one_of : (places : Words) → length places ≡ 1 → (a : List ℕ) × (places ≡ a ∷ [])
one_of places n = let c = cut 0 places n in (c.0, c.2 ∙ ap (λ (ps : Words). c.0 ∷ ps) (empty c.1 c.3))

two_of : (places : Words) → length places ≡ 2 → (a b : List ℕ) × (places ≡ a ∷ b ∷ [])
two_of places n = let c = cut 1 places n in let o = one_of c.1 c.3 in (c.0, o.0, c.2 ∙ ap (λ (ps : Words). c.0 ∷ ps) o.1)

three_of : (places : Words) → length places ≡ 3 → (a b d : List ℕ) × (places ≡ a ∷ b ∷ d ∷ [])
three_of places n = let c = cut 2 places n in let o = two_of c.1 c.3 in (c.0, o.0, o.1, c.2 ∙ ap (λ (ps : Words). c.0 ∷ ps) o.2)

four_of : (places : Words) → length places ≡ 4 → (a b d e : List ℕ) × (places ≡ a ∷ b ∷ d ∷ e ∷ [])
four_of places n = let c = cut 3 places n in let o = three_of c.1 c.3 in (c.0, o.0, o.1, o.2, c.2 ∙ ap (λ (ps : Words). c.0 ∷ ps) o.3)

right_there : (verb : Verb) (names : Bool) (places others : Words) (given : Given) → places ≡ others → IsWhole verb names places given → AreRight verb (looks verb names) 0 None others
right_there verb names places others given e w = subst (λ (ps : Words). AreRight verb (looks verb names) 0 None ps) e w.0

differ : (names : Bool) (task : Task) → (names ≡ true → ¬ HasOneName task) → Differ names task
differ true task h = h refl
differ false task h = tt

log_differs : (names : Bool) (g r m l : List ℕ) → AreRight verbs.Mesh names 0 None (g ∷ r ∷ m ∷ l ∷ []) → names ≡ true → m ≢ l
log_differs true g r m l right e same = right.1.1.1.0.other (ap Some same)
log_differs false g r m l right e same = absurd cc

-- the places and options stand for a task
abbrev StandsThere : Verb → Bool → Words → Given → Type 0
StandsThere verb names places given = (task : Task) × (verb_of task ≡ verb) × StandFor places given task × Differ names task

task_of_whole : (verb : Verb) (names : Bool) (places : Words) (given : Given) → length places ≡ place_count verb → IsWhole verb names places given → StandsThere verb names places given
task_of_whole verbs.Mesh names places given n w =
    let p = four_of places n in
    let r = right_there verbs.Mesh names places (p.0 ∷ p.1 ∷ p.2 ∷ p.3 ∷ []) given p.4 w in
    let t : Task = MeshOf (record { geometry = p.0; rules = p.1; mesh = p.2; log = p.3; options = w.1.0 }) in
    (t, refl, (p.4, w.1.1), differ names t (log_differs names p.0 p.1 p.2 p.3 r))
task_of_whole verbs.Geom names places given n w = let p = one_of places n in (GeomOf p.0, refl, p.1, differ names (GeomOf p.0) (λ e h. h))
task_of_whole verbs.Rules names places given n w = let p = one_of places n in (RulesOf p.0, refl, p.1, differ names (RulesOf p.0) (λ e h. h))
task_of_whole verbs.Check names places given n w = let p = two_of places n in (CheckOf p.0 p.1, refl, p.2, differ names (CheckOf p.0 p.1) (λ e h. h))
task_of_whole verbs.View names places given n w =
    let p = three_of places n in
    let r = right_there verbs.View names places (p.0 ∷ p.1 ∷ p.2 ∷ []) given p.3 w in
    let t : Task = ViewOf p.0 r.1.0.range.0 r.1.1.0.range.0 in
    (t, refl, (p.1, p.2, p.3, r.1.0.range.1, r.1.1.0.range.1), differ names t (λ e h. h))
task_of_whole verbs.Replay names places given n w = let p = three_of places n in (ReplayOf p.0 p.1 p.2, refl, p.3, differ names (ReplayOf p.0 p.1 p.2) (λ e h. h))
task_of_whole verbs.Gen names places given n w =
    let p = two_of places n in
    let r = right_there verbs.Gen names places (p.0 ∷ p.1 ∷ []) given p.2 w in
    let t : Task = GenOf r.0.range.0 r.1.0.range.0 in
    (t, refl, (p.0, p.1, p.2, r.0.range.1, r.1.0.range.1), differ names t (λ e h. h))

pub stands_where : (verb : Verb) (names : Bool) (words places : Words) (given : Given) → IsForm verb words places given → IsWhole verb names places given → StandsFor names verb words
stands_where verb names words places given form whole =
    let t = task_of_whole verb names places given form.count whole in
    (t.0, t.1, (places, given, subst (λ (v : Verb). IsForm v words places given) (sym t.1) form, t.2), t.3)

-- what words that stand for a task are
pub record StandsBy (verb : Verb) (names : Bool) (words : Words) : Type 0 where
  pub places : Words
  pub given : Given
  pub form : IsForm verb words places given
  pub whole : IsWhole verb names places given

pub stood_by : (verb : Verb) (names : Bool) (words : Words) → StandsFor names verb words → StandsBy verb names words
stood_by verb names words a =
    let calls = a.2 in
    let bare = bare_where (verb_of a.0) calls.1 calls.2.options in
    record {
      places = calls.0;
      given = calls.1;
      form = subst (λ (v : Verb). IsForm v words calls.0 calls.1) a.1 calls.2;
      whole = subst (λ (v : Verb). IsWhole v names calls.0 calls.1) a.1 (whole_of_task names a.0 calls.0 calls.1 bare calls.3 a.3);
    }

looked_at : (verb : Verb) (names : Bool) → looks verb names ≡ true → takes_options verb ≡ true
looked_at verbs.Mesh names e = refl
looked_at verbs.Geom names e = absurd cc
looked_at verbs.Rules names e = absurd cc
looked_at verbs.Check names e = absurd cc
looked_at verbs.View names e = absurd cc
looked_at verbs.Replay names e = absurd cc
looked_at verbs.Gen names e = absurd cc

abbrev start : Verb → Bool → Course
start verb names = at at_start (looks verb names) None

start_course : (verb : Verb) (names : Bool) → IsOnCourse verb (start verb names)
start_course verb names = record { sound = starts verb at_start refl; options = none_set; values = no_values; own = looked_at verb names; nameless = λ b. refl }

fits_stands : (verb : Verb) (names : Bool) (words : Words) → FitsRight verb (start verb names) words → StandsFor names verb words
fits_stands verb names words f = stands_where verb names words f.places f.all (formed verb words f.places f.all f.read (let n = f.count in omega arith) f.bare) (f.right, (f.options, f.values))

stands_fits : (verb : Verb) (names : Bool) (words : Words) → StandsFor names verb words → FitsRight verb (start verb names) words
stands_fits verb names words a =
    let b = stood_by verb names words a in
    record {
      places = b.places;
      all = b.given;
      read = read_again b.form.reads;
      count = let n = b.form.count in omega arith;
      bare = bare_where verb b.given b.form.options;
      right = b.whole.0;
      options = b.whole.1.0;
      values = b.whole.1.1;
    }

-- ---- what the calls give

pub starts_course : (verb : Verb) (names looked : Bool) (walk : Walk) → looked ≡ looks verb names → walk ≡ at_start → IsOnCourse verb (at walk looked None)
starts_course verb names looked walk l e = subst (λ (b : Bool). IsOnCourse verb (at walk b None)) (sym l) (subst (λ (w : Walk). IsOnCourse verb (at w (looks verb names) None)) (sym e) (start_course verb names))

pub fault_is : (verb : Verb) (names looked : Bool) (words : Words) (n : ℕ) (walk : Walk) → looked ≡ looks verb names → walk ≡ at_start → IsFirstOff (FitsRight verb (at walk looked None)) words n → IsFirstOff (StandsFor names verb) words n
fault_is verb names looked words n walk l e first = alike (FitsRight verb (start verb names)) (StandsFor names verb) words n (fits_stands verb names) (stands_fits verb names)
    (subst (λ (b : Bool). IsFirstOff (FitsRight verb (at at_start b None)) words n) l (subst (λ (w : Walk). IsFirstOff (FitsRight verb (at w looked None)) words n) e first))

pub none_left : {Z : Type 0} (verb : Verb) (course : Course) (words : List (String Z)) → length words < 1 → IsOnCourse verb course → IsFirstOff (FitsRight verb course) (map string_bytes words) 1
none_left verb course words short on = no_text (FitsRight verb course) words short (some_fit verb course on)

pub stops_there : (verb : Verb) (course : Course) (word : List ℕ) (rest words : Words) → words ≡ word ∷ rest → ((more : Words) → ¬ FitsRight verb course (word ∷ more)) → IsOnCourse verb course → IsFirstOff (FitsRight verb course) words 1
stops_there verb course word rest words are none on = at_once (FitsRight verb course) words word rest are (some_fit verb course on) none

pub goes_further : (verb : Verb) (course next : Course) (word : List ℕ) (rest words : Words) (n : ℕ) → words ≡ word ∷ rest → LeadsTo verb course word next → IsFirstOff (FitsRight verb next) rest n → IsFirstOff (FitsRight verb course) words (n + 1)
goes_further verb course next word rest words n are leads first = later (FitsRight verb course) (FitsRight verb next) words word rest n are leads.on leads.back first

-- no word yet
pub some_stand : (names : Bool) → Begins (IsVerbAnd (StandsFor names)) []
some_stand names = let e = some_fit verbs.Geom (start verbs.Geom names) (start_course verbs.Geom names) in (verb_word verbs.Geom ∷ e.0, (verbs.Geom, e.0, refl, fits_stands verbs.Geom names e.0 e.1))
