-- How what is found and noted grows along a walk: advances follow one another, and what is settled stays settled.
use Prim.Native.Nat.{ℕ}
use mathlib.Core.Path.{◌≡◌, refl, sym, subst, ap, ◌∙◌}
use mathlib.Core.List.{List, [], ◌++◌}
use mathlib.Core.Logic.{inl, inr}
use mathlib.Core.Bool.{true≢false}
use Rattle.std.proofs.lemmas.List.{append-nil, append_assoc}
use Rattle.std.specs.Prelude.{Option, None, Some, true, false}
use Rattle.std.specs.declared.cmp.Ordering.{Ordering}
use Rattle.std.specs.declared.cmp.Ordering.TheVariants.{Less, Equal, Greater}
use Rattle.std.specs.Ordering.{is_gt, ordering_reverse}
use Rattle.std.proofs.lemmas.Cmp.{upto}
use Rattle.rule_match.specs.declared.found.Found.{Found}
use Rattle.rule_match.specs.declared.progress.Note.{Note}
use Rattle.rule_match.specs.declared.progress.Progress.{Progress}
use Rattle.rule_match.specs.Order.{rank_cmp, IsNoWorse}
use Rattle.rule_match.specs.Walk.{BeginsWith, IsSettled, IsFrom, IsAdvance}
use Rattle.rule_match.proofs.RankOrder.{rank_total}

-- what comes later is not after what comes first
pub turned : (s r : Found) → is_gt (rank_cmp s r) ≡ true → is_gt (rank_cmp r s) ≡ false
turned s r h = ap is_gt (rank_total.antisymm r s) ∙ of (rank_cmp s r) h
  where
    of : (o : Ordering) → is_gt o ≡ true → is_gt (ordering_reverse o) ≡ false
    of Less h = absurd (true≢false (sym h))
    of Equal h = absurd (true≢false (sym h))
    of Greater h = refl

same : (s r : Found) → s ≡ r → is_gt (rank_cmp s r) ≡ false
same s r e = subst (λ (z : Found). is_gt (rank_cmp s z) ≡ false) e (own (rank_cmp s s) (rank_total.antisymm s s))
  where
    own : (o : Ordering) → o ≡ ordering_reverse o → is_gt o ≡ false
    own Less e = refl
    own Equal e = refl
    own Greater e = ap is_gt e

pub no_worse_same : (o : Option Found) → IsNoWorse o o
no_worse_same None = tt
no_worse_same (Some r) = same r r refl

pub no_worse_chain : (o p q : Option Found) → IsNoWorse o p → IsNoWorse p q → IsNoWorse o q
no_worse_chain o p None h k = tt
no_worse_chain o None (Some r) h k = absurd k
no_worse_chain None (Some s) (Some r) h k = absurd h
no_worse_chain (Some t) (Some s) (Some r) h k = upto rank_total t s r h k

-- nothing found later, nothing found before
pub none_before : (new old : Option Found) → IsNoWorse new old → new ≡ None → old ≡ None
none_before new None h e = refl
none_before new (Some r) h e = absurd (subst (λ (z : Option Found). IsNoWorse z (Some r)) e h)

pub begins_same : (ns : List Note) → BeginsWith ns ns
begins_same ns = ([], sym (append-nil ns))

pub begins_chain : (late mid early : List Note) → BeginsWith late mid → BeginsWith mid early → BeginsWith late early
begins_chain late mid early h k = (k.0 ++ h.0, h.1 ∙ (ap (λ (z : List Note). z ++ h.0) k.1 ∙ append_assoc early k.0 h.0))

-- ---- what is found was found before, or is a candidate
module _ (holds : List ℕ → Type 0) (rank : List ℕ → Found) where
  from_chain : (o p q : Option Found) → IsFrom holds rank o p → IsFrom holds rank p q → IsFrom holds rank o q
  from_chain o p None h k = tt
  from_chain o p (Some r) h (inr k) = inr k
  from_chain o p (Some r) h (inl e) = subst (λ (z : Option Found). IsFrom holds rank o z) e h

  from_same : (o : Option Found) → IsFrom holds rank o o
  from_same None = tt
  from_same (Some r) = inl refl

-- ---- advances
module _ {holds : List ℕ → Type 0} {rank : List ℕ → Found} where
  pub advance_same : (p : Progress) → IsAdvance holds rank p p
  advance_same p = record { no_worse = no_worse_same p.best; noted = begins_same p.notes.items; from = from_same holds rank p.best }

  pub advance_chain : {o p q : Progress} → IsAdvance holds rank o p → IsAdvance holds rank p q → IsAdvance holds rank o q
  advance_chain {o} {p} {q} h k = record {
    no_worse = no_worse_chain q.best p.best o.best k.no_worse h.no_worse;
    noted = begins_chain q.notes.items p.notes.items o.notes.items k.noted h.noted;
    from = from_chain holds rank o.best p.best q.best h.from k.from;
  }

  -- the find is kept: it comes first, and it is a candidate
  pub advance_found : (o p : Progress) (r : Found) (b : List ℕ) → p.best ≡ Some r → IsNoWorse (Some r) o.best → BeginsWith p.notes.items o.notes.items → holds b → r ≡ rank b → IsAdvance holds rank o p
  advance_found o p r b e h k m f = record {
    no_worse = subst (λ (z : Option Found). IsNoWorse z o.best) (sym e) h;
    noted = k;
    from = subst (λ (z : Option Found). IsFrom holds rank o.best z) (sym e) (inr (b, m, f));
  }

  -- nothing new is found, and a reason may be noted
  pub advance_noted : (o p : Progress) → p.best ≡ o.best → BeginsWith p.notes.items o.notes.items → IsAdvance holds rank o p
  advance_noted o p e k = record {
    no_worse = subst (λ (z : Option Found). IsNoWorse z o.best) (sym e) (no_worse_same o.best);
    noted = k;
    from = subst (λ (z : Option Found). IsFrom holds rank o.best z) (sym e) (from_same holds rank o.best);
  }

-- what is from narrower candidates is from wider ones
pub advance_wider : {narrow holds : List ℕ → Type 0} {rank : List ℕ → Found} {o p : Progress} → ((b : List ℕ) → narrow b → holds b) → IsAdvance narrow rank o p → IsAdvance holds rank o p
advance_wider {narrow} {holds} {rank} {o} {p} wider h = record { no_worse = h.no_worse; noted = h.noted; from = by p.best h.from }
  where
    by : (f : Option Found) → IsFrom narrow rank o.best f → IsFrom holds rank o.best f
    by None i = tt
    by (Some r) (inl e) = inl e
    by (Some r) (inr i) = inr (i.0, wider i.0 i.1, i.2)

-- ---- what is settled
module _ {holds : List ℕ → Type 0} {reasons : List Note → List ℕ → Type 0} {rank : List ℕ → Found} where
  pub settled_later : (more : (notes more : List Note) (b : List ℕ) → reasons notes b → reasons (notes ++ more) b) →
      {o p : Progress} (b : List ℕ) → IsAdvance holds rank o p → IsSettled holds reasons rank o b → IsSettled holds reasons rank p b
  settled_later more {o} {p} b a s = record {
    least = λ h. no_worse_chain p.best o.best (Some (rank b)) a.no_worse (s.least h);
    refused = λ e. subst (λ (z : List Note). reasons z b) (sym a.noted.1) (more o.notes.items a.noted.0 b (s.refused (none_before p.best o.best a.no_worse e)));
  }

  -- it is found
  pub settled_found : (p : Progress) (r : Found) (b : List ℕ) → p.best ≡ Some r → r ≡ rank b → IsSettled holds reasons rank p b
  settled_found p r b e f = record {
    least = λ h. subst (λ (z : Option Found). IsNoWorse z (Some (rank b))) (sym e) (same r (rank b) f);
    refused = λ n. absurd (subst (λ (z : Option Found). IsNoWorse z (Some r)) (sym e ∙ n) (same r r refl));
  }

  -- it is no candidate, and its reason is noted
  pub settled_refused : (p : Progress) (b : List ℕ) → (holds b → ⊥) → reasons p.notes.items b → IsSettled holds reasons rank p b
  settled_refused p b n r = record { least = λ h. absurd (n h); refused = λ e. r }

  -- it is no candidate whatever the front holds: no note is needed
  pub settled_never : (more : (notes more : List Note) (b : List ℕ) → reasons notes b → reasons (notes ++ more) b) →
      (p : Progress) (b : List ℕ) → (holds b → ⊥) → reasons [] b → IsSettled holds reasons rank p b
  settled_never more p b n r = settled_refused p b n (more [] p.notes.items b r)

  -- it comes after the best so far
  pub settled_worse : (p : Progress) (r : Found) (b : List ℕ) → IsNoWorse p.best (Some r) → r ≡ rank b → IsSettled holds reasons rank p b
  settled_worse p r b h e = record {
    least = λ i. subst (λ (z : Found). IsNoWorse p.best (Some z)) e h;
    refused = λ n. absurd (subst (λ (z : Option Found). IsNoWorse z (Some r)) n h);
  }
