-- What is held after some files are put one after another, and where the puts stop.
use Rattle.std.proofs.Common.{◌≡◌, inl, inr, ℕ, ◌≤◌, List, [], ◌∷◌, ◌++◌, map, length, take, drop, ◌-◌, get_or, sym, subst, ap, refl, ◌∙◌}
use Rattle.std.specs.FinMap as finite
use Rattle.std.specs.List.{AllByRecursion}
use Rattle.folder_io.specs.Causes.{ToldBoth}
use Rattle.folder_io.specs.Names.{Files, held_at, SameBut}
use Rattle.folder_io.specs.States.{FolderState}
use Rattle.folder_io.proofs.Counts.{rose_from_earlier}
use Rattle.folder_io.proofs.Tables.{held_inserted, same_but_inserted}
use Rattle.netmesh_cli.specs.declared.outcome.Refusal.{Refusal}
use Rattle.netmesh_cli.specs.declared.outcome.Refusal.TheVariants.{Words, In2d, Geometry, Rules, Vol, Log, Folder, Out, Memory, NotYet}
use Rattle.netmesh_cli.specs.Causes.{PutRefused}
use Rattle.netmesh_cli.specs.declared.made.Put.{Put as PutValue}
use Rattle.netmesh_cli.specs.Jobs.{Put, put_of, names_of_puts}
use Rattle.netmesh_cli.specs.Served.{IsListed, AreApart, put_all, StopsAt, PutsRefused, ArePutInOrder}
use Rattle.call_words.proofs.Walking.{first_cut}
use Rattle.netmesh_cli.proofs.Tolds.{told_both_weaker, told_chain}

-- ---- from one put to the rest of them

pub put_since : (name : List ℕ) (s0 s1 s2 : FolderState) (r : Refusal) → s0.faults ≤ s1.faults → PutRefused name s1 s2 r → PutRefused name s0 s2 r
put_since name s0 s1 s2 (Words fault) kept refused = refused
put_since name s0 s1 s2 (In2d fault) kept refused = refused
put_since name s0 s1 s2 (Geometry fault) kept refused = refused
put_since name s0 s1 s2 (Rules fault) kept refused = refused
put_since name s0 s1 s2 (Vol fault) kept refused = refused
put_since name s0 s1 s2 (Log fault) kept refused = refused
put_since name s0 s1 s2 (Folder named number) kept refused = (refused.0, refused.1, (rose_from_earlier s0.faults s1.faults s2.faults kept refused.2.0, refused.2.1))
put_since name s0 s1 s2 Out kept refused = refused
put_since name s0 s1 s2 Memory kept refused = refused
put_since name s0 s1 s2 (NotYet part) kept refused = refused

-- the first is refused
pub puts_first : (put : Put) (later : List Put) (s0 s1 : FolderState) (r : Refusal) → ToldBoth s0.held s1.held (SameBut put.name) → PutRefused put.name s0 s1 r → PutsRefused (put ∷ later) s0 s1 r
puts_first put later s0 s1 r others refused = record {
  name = put.name;
  listed = inl refl;
  stops = told_both_weaker s0.held s1.held (SameBut put.name) (StopsAt (put ∷ later) put.name)
      (λ old new but. record { done = []; put = put; later = later; puts_are = refl; named = refl; others = but }) others;
  refused = refused;
}

-- the first is put, and a later one is refused
pub puts_later : (put : Put) (later : List Put) (s0 s1 s2 : FolderState) (r : Refusal) → ToldBoth s0.held s1.held (λ old new. new ≡ finite.insert old put.name put.bytes) → s0.faults ≤ s1.faults → PutsRefused later s1 s2 r → PutsRefused (put ∷ later) s0 s2 r
puts_later put later s0 s1 s2 r first kept rest = record {
  name = rest.name;
  listed = inr rest.listed;
  stops = told_chain s0.held s1.held s2.held (λ old new. new ≡ finite.insert old put.name put.bytes) (StopsAt later rest.name) (StopsAt (put ∷ later) rest.name)
      (λ old mid new e stops. record {
        done = put ∷ stops.done;
        put = stops.put;
        later = stops.later;
        puts_are = ap (λ (ps : List Put). put ∷ ps) stops.puts_are;
        named = stops.named;
        others = subst (λ (files : Files). SameBut rest.name (put_all stops.done files) new) e stops.others;
      }) first rest.stops;
  refused = put_since rest.name s0 s1 s2 r kept rest.refused;
}

-- the same of the puts of the program, of which the first is known
pub puts_first_at : (puts : List PutValue) (first : PutValue) → 1 ≤ length puts → first ≡ get_or puts 0 first → (s0 s1 : FolderState) (r : Refusal) → ToldBoth s0.held s1.held (SameBut first.name.now) → PutRefused first.name.now s0 s1 r → PutsRefused (map put_of puts) s0 s1 r
puts_first_at puts first some is s0 s1 r others refused = subst (λ (ps : List PutValue). PutsRefused (map put_of ps) s0 s1 r) (sym (first_cut puts first some is))
    (puts_first (put_of first) (map put_of (take (length puts - 1) (drop 1 puts))) s0 s1 r others refused)

pub puts_later_at : (puts : List PutValue) (first : PutValue) → 1 ≤ length puts → first ≡ get_or puts 0 first → (bytes : List ℕ) → bytes ≡ first.bytes.items → (s0 s1 s2 : FolderState) (r : Refusal) → ToldBoth s0.held s1.held (λ old new. new ≡ finite.insert old first.name.now bytes) → s0.faults ≤ s1.faults → PutsRefused (map put_of (take (length puts - 1) (drop 1 puts))) s1 s2 r → PutsRefused (map put_of puts) s0 s2 r
puts_later_at puts first some is bytes are s0 s1 s2 r put kept rest = subst (λ (ps : List PutValue). PutsRefused (map put_of ps) s0 s2 r) (sym (first_cut puts first some is))
    (puts_later (put_of first) (map put_of (take (length puts - 1) (drop 1 puts))) s0 s1 s2 r
    (subst (λ (b : List ℕ). ToldBoth s0.held s1.held (λ old new. new ≡ finite.insert old first.name.now b)) are put) kept rest)

-- ---- names that are not put

pub untouched : (puts : List Put) (files : Files) (other : List ℕ) → ¬ IsListed other (names_of_puts puts) → held_at (put_all puts files) other ≡ held_at files other
untouched [] files other away = refl
untouched (put ∷ later) files other away = untouched later (finite.insert files put.name put.bytes) other (λ more. away (inr more)) ∙ same_but_inserted files put.name put.bytes other (λ e. away (inl e))

listed_front : (name : List ℕ) (done : List Put) (rest : List Put) → IsListed name (names_of_puts done) → IsListed name (names_of_puts (done ++ rest))
listed_front name [] rest listed = absurd listed
listed_front name (put ∷ done) rest (inl here) = inl here
listed_front name (put ∷ done) rest (inr more) = inr (listed_front name done rest more)

listed_behind : (name : List ℕ) (done : List Put) (rest : List Put) → IsListed name (names_of_puts rest) → IsListed name (names_of_puts (done ++ rest))
listed_behind name [] rest listed = listed
listed_behind name (put ∷ done) rest listed = inr (listed_behind name done rest listed)

others_of : (done : List Put) (put : Put) (later : List Put) (old new : Files) → SameBut put.name (put_all done old) new → (other : List ℕ) → ¬ IsListed other (names_of_puts (done ++ put ∷ later)) → held_at new other ≡ held_at old other
others_of done put later old new but other away = but other (λ e. away (listed_behind other done (put ∷ later) (inl e))) ∙ untouched done old other (λ listed. away (listed_front other done (put ∷ later) listed))

-- names that aren't put hold what they held
pub others_at : (puts : List Put) (name : List ℕ) (old new : Files) → StopsAt puts name old new → (other : List ℕ) → ¬ IsListed other (names_of_puts puts) → held_at new other ≡ held_at old other
others_at puts name old new stops other away = others_of stops.done stops.put stops.later old new
    (subst (λ (n : List ℕ). SameBut n (put_all stops.done old) new) (sym stops.named) stops.others) other
    (subst (λ (ps : List Put). ¬ IsListed other (names_of_puts ps)) stops.puts_are away)

-- ---- the order of the puts

-- every name of these holds what it held
abbrev AreSame : List Put → Files → Files → Type 0
AreSame puts old new = AllByRecursion (λ put. held_at new put.name ≡ held_at old put.name) puts

same_later : (name : List ℕ) (later : List Put) (old new : Files) → ¬ IsListed name (names_of_puts later) → SameBut name old new → AreSame later old new
same_later name [] old new away but = tt
same_later name (put ∷ later) old new away but = (but put.name (λ e. away (inl (sym e))), same_later name later old new (λ more. away (inr more)) but)

-- what is in order behind a put is so before it
same_from : (put : Put) (later : List Put) (old new : Files) → ¬ IsListed put.name (names_of_puts later) → AreSame later (finite.insert old put.name put.bytes) new → AreSame later old new
same_from put [] old new away same = tt
same_from put (next ∷ later) old new away same = (same.0 ∙ same_but_inserted old put.name put.bytes next.name (λ e. away (inl (sym e))), same_from put later old new (λ more. away (inr more)) same.1)

order_from : (put : Put) (later : List Put) (old new : Files) → ¬ IsListed put.name (names_of_puts later) → ArePutInOrder later (finite.insert old put.name put.bytes) new → ArePutInOrder later old new
order_from put [] old new away order = tt
order_from put (next ∷ later) old new away (inl order) = inl (order.0, order_from put later old new (λ more. away (inr more)) order.1)
order_from put (next ∷ later) old new away (inr same) = inr (same_from put later old new (λ more. away (inr more)) same)

order_of : (done : List Put) (put : Put) (later : List Put) (old new : Files) → AreApart (names_of_puts (done ++ put ∷ later)) → SameBut put.name (put_all done old) new → ArePutInOrder (done ++ put ∷ later) old new
order_of [] put later old new apart but = inr (same_later put.name later old new apart.0 but)
order_of (first ∷ done) put later old new apart but = inl (
  but first.name (λ e. apart.0 (listed_behind first.name done (put ∷ later) (inl e)))
      ∙ untouched done (finite.insert old first.name first.bytes) first.name (λ listed. apart.0 (listed_front first.name done (put ∷ later) listed))
      ∙ held_inserted old first.name first.bytes,
  order_from first (done ++ put ∷ later) old new apart.0 (order_of done put later (finite.insert old first.name first.bytes) new apart.1 but),
)

pub order_at : (puts : List Put) (name : List ℕ) (old new : Files) → AreApart (names_of_puts puts) → StopsAt puts name old new → ArePutInOrder puts old new
order_at puts name old new apart stops = subst (λ (ps : List Put). ArePutInOrder ps old new) (sym stops.puts_are)
    (order_of stops.done stops.put stops.later old new
    (subst (λ (ps : List Put). AreApart (names_of_puts ps)) stops.puts_are apart)
    (subst (λ (n : List ℕ). SameBut n (put_all stops.done old) new) (sym stops.named) stops.others))

-- all are put
pub order_all : (puts : List Put) (old : Files) → AreApart (names_of_puts puts) → ArePutInOrder puts old (put_all puts old)
order_all [] old apart = tt
order_all (put ∷ later) old apart = inl (
  untouched later (finite.insert old put.name put.bytes) put.name apart.0 ∙ held_inserted old put.name put.bytes,
  order_from put later old (put_all later (finite.insert old put.name put.bytes)) apart.0 (order_all later (finite.insert old put.name put.bytes) apart.1),
)
