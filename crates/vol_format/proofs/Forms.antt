-- Reading a form, part by part.
use Rattle.std.proofs.Common.{◌≡◌, ℕ, suc, List, [], ◌∷◌, ◌++◌, Result, Ok, Err, refl, sym, ap, ◌∙◌}
use Rattle.vol_format.specs.declared.refusal.VolRefusal.{VolRefusal}
use Rattle.vol_format.specs.declared.refusal.VolRefusal.TheVariants.{Syntax, Number, BadIndex, TooMany, Memory}
use Rattle.vol_format.specs.Reading.{Form, Leaf, Ask, ◌>>=◌, State, Read, and_then, asked, run, rows_behind, Fails}

then_again : {A B C : Type 0} (r : Read A) (f : A → State → Read B) (g : B → State → Read C) → ((a : A) (st : State) → Read C)
    → and_then r (λ a after. and_then (f a after) g) ≡ and_then (and_then r f) g
then_again (Ok x) f g h = refl
then_again (Err e) f g h = refl

pub then_same : {A B : Type 0} (r : Read A) (f g : A → State → Read B) → ((a : A) (st : State) → f a st ≡ g a st) → and_then r f ≡ and_then r g
then_same (Ok x) f g same = same x.0 x.1
then_same (Err e) f g same = refl

-- a form behind another is read where that ends
pub run_then : {A B : Type 0} (form : Form A) (next : A → Form B) (st : State) → run (form >>= next) st ≡ and_then (run form st) (λ a after. run (next a) after)
run_then (Leaf a) next st = refl
run_then (Ask need form) next st =
    then_same (asked need st) (λ v after. run (form v >>= next) after) (λ v after. and_then (run (form v) after) (λ a last. run (next a) last)) (λ v after. run_then (form v) next after)
    ∙ then_again (asked need st) (λ v after. run (form v) after) (λ a last. run (next a) last) (λ v after. and_then (run (form v) after) (λ a last. run (next a) last))

-- a refusal ends it
pub fails_then : {A C : Type 0} (e : VolRefusal) (r : Result A VolRefusal) (total : Result C VolRefusal) (next : Result A VolRefusal → Result C VolRefusal) → ((f : VolRefusal) → next (Err f) ≡ Err f) → next r ≡ total → Fails e r → Fails e total
fails_then Memory r total next ends so_far h = tt
fails_then (Syntax w) r total next ends so_far h = sym so_far ∙ ap next h ∙ ends (Syntax w)
fails_then (Number w) r total next ends so_far h = sym so_far ∙ ap next h ∙ ends (Number w)
fails_then (BadIndex w) r total next ends so_far h = sym so_far ∙ ap next h ∙ ends (BadIndex w)
fails_then (TooMany w) r total next ends so_far h = sym so_far ∙ ap next h ∙ ends (TooMany w)

-- a refusal that was given back as it is
pub fails_same : {A : Type 0} (e : VolRefusal) (r : Result A VolRefusal) → r ≡ Err e → Fails e r
fails_same Memory r h = tt
fails_same (Syntax w) r h = h
fails_same (Number w) r h = h
fails_same (BadIndex w) r h = h
fails_same (TooMany w) r h = h

-- ---- rows, as the loop reads them

pub rows_go_on : {A : Type 0} (row : Form A) (rows : List A) (x : A) (n more : ℕ) (st after : State) (total : Read (List A)) → n ≡ suc more → run row st ≡ Ok (x, after)
    → run (rows_behind row rows n) st ≡ total → run (rows_behind row (rows ++ x ∷ []) more) after ≡ total
rows_go_on row rows x n more st after total is read so_far =
    let one : run (rows_behind row rows (suc more)) st ≡ run (rows_behind row (rows ++ x ∷ []) more) after = run_then row (λ next. rows_behind row (rows ++ next ∷ []) more) st ∙ ap (λ (r : Read _). and_then r (λ next last. run (rows_behind row (rows ++ next ∷ []) more) last)) read in
    sym one ∙ rw is at so_far

pub rows_fail : {A : Type 0} (e : VolRefusal) (row : Form A) (rows : List A) (n more : ℕ) (st : State) (total : Read (List A)) → n ≡ suc more → Fails e (run row st)
    → run (rows_behind row rows n) st ≡ total → Fails e total
rows_fail e row rows n more st total is fails so_far =
    let next : Read _ → Read (List _) = λ r. and_then r (λ next last. run (rows_behind row (rows ++ next ∷ []) more) last) in
    fails_then e (run row st) total next (λ f. refl) (sym (run_then row (λ next. rows_behind row (rows ++ next ∷ []) more) st) ∙ rw is at so_far) fails
