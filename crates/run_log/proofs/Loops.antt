-- Reading lists item by item, as the loops do: what was read before, and what is still read.
use Rattle.std.proofs.Common.{◌≡◌, ℕ, zero, suc, List, [], ◌∷◌, ◌++◌, Ok, Err, refl, sym, ap, ◌∙◌, append_assoc}
use Rattle.std.proofs.lemmas.List.{append-nil}
use Rattle.run_log.specs.declared.refusal.LogRefusal.{LogRefusal}
use Rattle.run_log.specs.declared.refusal.LogRefusal.TheVariants.{Syntax, Number, BadIndex, NoState, Memory}
use Rattle.run_log.specs.Form.{Form, Says, ◌>>=◌, many}
use Rattle.run_log.specs.Reading.{State, Read, Fails, then, read}
use Rattle.run_log.proofs.Forms.{read_bind}

-- what was read before, and what is still read
abbrev pub with_front : {A : Type 0} → List A → Read (List A) → Read (List A)
with_front front rest = then rest (λ xs behind. Ok (front ++ xs, behind))

pub regroup : {A : Type 0} (front : List A) (x : A) (rest : Read (List A)) → with_front front (then rest (λ xs behind. Ok (x ∷ xs, behind))) ≡ with_front (front ++ x ∷ []) rest
regroup front x (Ok xs) = ap (λ (ys : List _). Ok (ys, xs.1)) (simp append_assoc)
regroup front x (Err e) = refl

pub with_front_nil : {A : Type 0} (rest : Read (List A)) → with_front [] rest ≡ rest
with_front_nil (Ok xs) = refl
with_front_nil (Err e) = refl

-- a refusal ends it
pub stops_at : {A B : Type 0} (e : LogRefusal) (first : Read A) (after : A → State → Read B) (total : Read B) → Fails e first → then first after ≡ total → Fails e total
stops_at Memory first after total h so_far = tt
stops_at (Syntax at) first after total h so_far = let one : then first after ≡ Err (Syntax at) = rw h refl in sym so_far ∙ one
stops_at (Number at) first after total h so_far = let one : then first after ≡ Err (Number at) = rw h refl in sym so_far ∙ one
stops_at (BadIndex at) first after total h so_far = let one : then first after ≡ Err (BadIndex at) = rw h refl in sym so_far ∙ one
stops_at (NoState d k) first after total h so_far = let one : then first after ≡ Err (NoState d k) = rw h refl in sym so_far ∙ one

-- one more item, and then the rest
item_first : {A : Type 0} (form : Form A) (n : ℕ) (st : State) → read (many (suc n) form) st ≡ then (read form st) (λ x behind. then (read (many n form) behind) (λ xs after. Ok (x ∷ xs, after)))
unfolding read
item_first form n st = read_bind form (λ x. many n form >>= λ xs. Says (x ∷ xs)) st
    ∙ ap (λ (f : _ → State → Read (List _)). then (read form st) f) (λ i x behind. read_bind (many n form) (λ xs. Says (x ∷ xs)) behind i)

pub many_go_on : {A : Type 0} (form : Form A) (n more : ℕ) (st st2 : State) (front : List A) (x : A) (total : Read (List A)) → n ≡ suc more → read form st ≡ Ok (x, st2)
    → with_front front (read (many n form) st) ≡ total → with_front (front ++ x ∷ []) (read (many more form) st2) ≡ total
many_go_on form n more st st2 front x total is one so_far =
    let e : with_front front (read (many n form) st) ≡ with_front (front ++ x ∷ []) (read (many more form) st2) = rw (is, item_first form more st, one) (regroup front x (read (many more form) st2)) in
    sym e ∙ so_far

pub many_end : {A : Type 0} (form : Form A) (n : ℕ) (st : State) (front : List A) (total : Read (List A)) → n ≡ zero → with_front front (read (many n form) st) ≡ total → total ≡ Ok (front, st)
unfolding read
many_end form n st front total is so_far =
    let e : with_front front (read (many n form) st) ≡ Ok (front, st) = rw is (ap (λ (xs : List _). Ok (xs, st)) (append-nil front)) in
    sym so_far ∙ e

pub many_fail : {A : Type 0} (e : LogRefusal) (form : Form A) (n more : ℕ) (st : State) (front : List A) (total : Read (List A)) → n ≡ suc more → Fails e (read form st)
    → with_front front (read (many n form) st) ≡ total → Fails e total
many_fail e form n more st front total is fails so_far =
    let rest : _ → State → Read (List _) = λ x behind. then (read (many more form) behind) (λ xs after. Ok (x ∷ xs, after)) in
    let h : Fails e (then (read form st) rest) = stops_at e (read form st) rest (then (read form st) rest) fails refl in
    stops_at e (read (many n form) st) (λ xs behind. Ok (front ++ xs, behind)) total (rw (is, item_first form more st) h) so_far
