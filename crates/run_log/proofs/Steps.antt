-- Lines with lists among them, read part by part: each is the next form read behind what came before.
use Rattle.std.proofs.Common.{◌≡◌, ℕ, zero, suc, ◌+◌, Bool, true, false, List, [], ◌∷◌, ◌++◌, length, Ok, Err, refl, sym, ap, ◌∙◌, codes}
use Rattle.rule_match.specs.declared.application.Application.{Application}
use Rattle.mesh_run.specs.declared.domain_run.DomainRun.{DomainRun}
use Rattle.run_log.specs.Form.{Form, Says, ◌>>=◌, many}
use Rattle.run_log.specs.Reading.{State, Read, Fails, then, read, word_at}
use Rattle.run_log.specs.Numbers.{greatest_whole, point, fixed_need, number_need, end_need, others_need, signed_need}
use Rattle.run_log.specs.Grammar.{counted, place, opening_point, opening_line, front_line, element, application, applications, domain_run, if_more, domains, options, log, all_points}
use Rattle.run_log.proofs.Forms.{read_bind}
use Rattle.run_log.proofs.Loops.{with_front, regroup, stops_at}
use Rattle.std.proofs.lemmas.List.{append-nil}
use Rattle.run_log.specs.declared.refusal.LogRefusal.{LogRefusal}
use Rattle.run_log.specs.declared.log.Log.{Log}

-- reading one form, and then another
pub then_read : {A B : Type 0} (form : Form A) (next : A → Form B) (after : A → State → Read B) (st : State) → ((x : A) (behind : State) → read (next x) behind ≡ after x behind)
    → read (form >>= next) st ≡ then (read form st) after
then_read form next after st same = read_bind form next st ∙ ap (λ (f : _ → State → Read _). then (read form st) f) (λ i x behind. same x behind i)

-- an application
unfoldable pub application_at : ℕ → State → Read Application
application_at points st =
    then (word_at (fixed_need (codes "a")) st) (λ a behind.
    then (word_at (number_need 1 16) behind) (λ class behind.
    then (word_at (number_need 1 greatest_whole) behind) (λ line behind.
    then (word_at (number_need 1 256) behind) (λ rule behind.
    then (read (counted 16 (point points)) behind) (λ mapped behind.
    then (read (counted 8 place) behind) (λ made behind.
    then (read (counted 8 (element (points + length made))) behind) (λ elements behind.
    Ok (record { class = class; line = line; rule = rule; points = mapped; made = made; elements = elements }, behind))))))))

-- the same behind each word
then_same : {A B : Type 0} (first : Read A) (f g : A → State → Read B) → ((x : A) (behind : State) → f x behind ≡ g x behind) → then first f ≡ then first g
then_same (Ok x) f g same = same x.0 x.1
then_same (Err e) f g same = refl

pub application_reads : (points : ℕ) (st : State) → read (application points) st ≡ application_at points st
unfolding read application application_at
application_reads points st =
    then_same (word_at (fixed_need (codes "a")) st) _ _ (λ a behind.
    then_same (word_at (number_need 1 16) behind) _ _ (λ class behind.
    then_same (word_at (number_need 1 greatest_whole) behind) _ _ (λ line behind.
    then_same (word_at (number_need 1 256) behind) _ _ (λ rule behind.
    then_read (counted 16 (point points)) _ _ behind (λ mapped behind.
    then_read (counted 8 place) _ _ behind (λ made behind.
    then_read (counted 8 (element (points + length made))) _ _ behind (λ elements behind. refl)))))))

-- one application more, and then the rest
first_reads : (n points : ℕ) (st : State) → read (applications (suc n) points) st
    ≡ then (read (application points) st) (λ x behind. then (read (applications n (points + length x.made)) behind) (λ xs after. Ok (x ∷ xs, after)))
unfolding read applications
first_reads n points st = then_read (application points) _ _ st (λ x behind. then_read (applications n (points + length x.made)) _ _ behind (λ xs after. refl))

pub applications_go_on : (n more points : ℕ) (st st2 : State) (front : List Application) (x : Application) (total : Read (List Application)) → n ≡ suc more → read (application points) st ≡ Ok (x, st2)
    → with_front front (read (applications n points) st) ≡ total → with_front (front ++ x ∷ []) (read (applications more (points + length x.made)) st2) ≡ total
applications_go_on n more points st st2 front x total is one so_far =
    let e : with_front front (read (applications n points) st) ≡ with_front (front ++ x ∷ []) (read (applications more (points + length x.made)) st2) =
    rw (is, first_reads more points st, one) (regroup front x (read (applications more (points + length x.made)) st2)) in
    sym e ∙ so_far

pub applications_end : (n points : ℕ) (st : State) (front : List Application) (total : Read (List Application)) → n ≡ zero → with_front front (read (applications n points) st) ≡ total → total ≡ Ok (front, st)
unfolding read applications
applications_end n points st front total is so_far =
    let e : with_front front (read (applications n points) st) ≡ Ok (front, st) = rw is (ap (λ (xs : List _). Ok (xs, st)) (append-nil front)) in
    sym so_far ∙ e

pub applications_fail : (e : LogRefusal) (n more points : ℕ) (st : State) (front : List Application) (total : Read (List Application)) → n ≡ suc more → Fails e (read (application points) st)
    → with_front front (read (applications n points) st) ≡ total → Fails e total
applications_fail e n more points st front total is fails so_far =
    let rest : _ → State → Read (List _) = λ x behind. then (read (applications more (points + length x.made)) behind) (λ xs after. Ok (x ∷ xs, after)) in
    let h : Fails e (then (read (application points) st) rest) = stops_at e (read (application points) st) rest (then (read (application points) st) rest) fails refl in
    stops_at e (read (applications n points) st) (λ xs behind. Ok (front ++ xs, behind)) total (rw (is, first_reads more points st) h) so_far

-- the run of a domain
unfoldable pub domain_at : ℕ → State → Read DomainRun
domain_at before st =
    then (word_at (number_need (before + 1) 64) st) (λ domain behind.
    then (word_at (number_need 0 greatest_whole) behind) (λ points behind.
    then (word_at (number_need 0 greatest_whole) behind) (λ lines behind.
    then (word_at (number_need 0 greatest_whole) behind) (λ applied behind.
    then (word_at (number_need 0 greatest_whole) behind) (λ left behind.
    then (word_at end_need behind) (λ end behind.
    then (read (many points opening_point) behind) (λ opening behind.
    then (read (many lines (opening_line points)) behind) (λ sides behind.
    then (read (applications applied points) behind) (λ made behind.
    then (read (many left (front_line (length (all_points opening made)))) behind) (λ front behind.
    Ok (record { domain = domain; points = all_points opening made; opened = points; lines = sides; applications = made; front = front; end = end }, behind)))))))))))

pub domain_reads : (before : ℕ) (st : State) → read (domain_run before) st ≡ domain_at before st
unfolding read domain_run domain_at
domain_reads before st =
    then_same (word_at (number_need (before + 1) 64) st) _ _ (λ domain behind.
    then_same (word_at (number_need 0 greatest_whole) behind) _ _ (λ points behind.
    then_same (word_at (number_need 0 greatest_whole) behind) _ _ (λ lines behind.
    then_same (word_at (number_need 0 greatest_whole) behind) _ _ (λ applied behind.
    then_same (word_at (number_need 0 greatest_whole) behind) _ _ (λ left behind.
    then_same (word_at end_need behind) _ _ (λ end behind.
    then_read (many points opening_point) _ _ behind (λ opening behind.
    then_read (many lines (opening_line points)) _ _ behind (λ sides behind.
    then_read (applications applied points) _ _ behind (λ made behind.
    then_read (many left (front_line (length (all_points opening made)))) _ _ behind (λ front behind. refl))))))))))

-- what comes after the word that says whether another run follows
after_word : ℕ → ℕ → Bool → State → Read (List DomainRun)
after_word room before more behind = read (if_more more (domain_run before >>= λ run. domains room run.domain >>= λ rest. Says (run ∷ rest))) behind

word_reads : (room before : ℕ) (st : State) → read (domains (suc room) before) st ≡ then (word_at others_need st) (after_word room before)
unfolding read domains after_word
word_reads room before st = refl

run_reads : (room before : ℕ) (st : State) → after_word room before true st ≡ then (read (domain_run before) st) (λ x behind. then (read (domains room x.domain) behind) (λ xs after. Ok (x ∷ xs, after)))
unfolding read after_word
run_reads room before st = then_read (domain_run before) _ _ st (λ x behind. then_read (domains room x.domain) _ _ behind (λ xs after. refl))

pub domains_go_on : (n room before : ℕ) (st st1 st2 : State) (front : List DomainRun) (x : DomainRun) (total : Read (List DomainRun)) → n ≡ suc room → word_at others_need st ≡ Ok (true, st1) → read (domain_run before) st1 ≡ Ok (x, st2)
    → with_front front (read (domains n before) st) ≡ total → with_front (front ++ x ∷ []) (read (domains room x.domain) st2) ≡ total
domains_go_on n room before st st1 st2 front x total is word one so_far =
    let e : with_front front (read (domains n before) st) ≡ with_front (front ++ x ∷ []) (read (domains room x.domain) st2) =
    rw (is, word_reads room before st, word, run_reads room before st1, one) (regroup front x (read (domains room x.domain) st2)) in
    sym e ∙ so_far

pub domains_end : (n room before : ℕ) (st st1 : State) (front : List DomainRun) (total : Read (List DomainRun)) → n ≡ suc room → word_at others_need st ≡ Ok (false, st1)
    → with_front front (read (domains n before) st) ≡ total → total ≡ Ok (front, st1)
unfolding read after_word
domains_end n room before st st1 front total is word so_far =
    let e : with_front front (read (domains n before) st) ≡ Ok (front, st1) = rw (is, word_reads room before st, word) (ap (λ (xs : List _). Ok (xs, st1)) (append-nil front)) in
    sym so_far ∙ e

pub domains_fail_word : (e : LogRefusal) (n room before : ℕ) (st : State) (front : List DomainRun) (total : Read (List DomainRun)) → n ≡ suc room → Fails e (word_at others_need st)
    → with_front front (read (domains n before) st) ≡ total → Fails e total
domains_fail_word e n room before st front total is fails so_far =
    let h = stops_at e (word_at others_need st) (after_word room before) (then (word_at others_need st) (after_word room before)) fails refl in
    stops_at e (read (domains n before) st) (λ xs behind. Ok (front ++ xs, behind)) total (rw (is, word_reads room before st) h) so_far

pub domains_fail_run : (e : LogRefusal) (n room before : ℕ) (st st1 : State) (front : List DomainRun) (total : Read (List DomainRun)) → n ≡ suc room → word_at others_need st ≡ Ok (true, st1) → Fails e (read (domain_run before) st1)
    → with_front front (read (domains n before) st) ≡ total → Fails e total
domains_fail_run e n room before st st1 front total is word fails so_far =
    let rest : _ → State → Read (List _) = λ x behind. then (read (domains room x.domain) behind) (λ xs after. Ok (x ∷ xs, after)) in
    let h : Fails e (then (read (domain_run before) st1) rest) = stops_at e (read (domain_run before) st1) rest (then (read (domain_run before) st1) rest) fails refl in
    stops_at e (read (domains n before) st) (λ xs behind. Ok (front ++ xs, behind)) total (rw (is, word_reads room before st, word, run_reads room before st1) h) so_far

-- a whole log
unfoldable pub log_at : State → Read Log
log_at st =
    then (word_at (fixed_need (codes "netmeshlog")) st) (λ name behind.
    then (word_at (number_need 1 1) behind) (λ version behind.
    then (word_at (fixed_need (codes "run")) behind) (λ run behind.
    then (word_at (signed_need 6 8) behind) (λ shift behind.
    then (read options behind) (λ opts behind.
    then (read (domains 65 0) behind) (λ runs behind.
    Ok (record { shift = shift; options = opts; domains = runs }, behind)))))))

pub log_reads : (st : State) → read log st ≡ log_at st
unfolding read log log_at
log_reads st =
    then_same (word_at (fixed_need (codes "netmeshlog")) st) _ _ (λ name behind.
    then_same (word_at (number_need 1 1) behind) _ _ (λ version behind.
    then_same (word_at (fixed_need (codes "run")) behind) _ _ (λ run behind.
    then_same (word_at (signed_need 6 8) behind) _ _ (λ shift behind.
    then_read options _ _ behind (λ opts behind.
    then_read (domains 65 0) _ _ behind (λ runs behind. refl))))))
