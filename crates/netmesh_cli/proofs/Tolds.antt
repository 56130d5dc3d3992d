-- What is told of an object, and of it before and after a call.
use Rattle.std.proofs.Common.{◌≡◌, sym, subst, refl}
use Rattle.std.specs.Prelude.{Option, None, Some}
use Rattle.folder_io.specs.Causes.{Told, ToldBoth}

pub told_weaker : {A : Type 0} (held : Option A) (P Q : A → Type 0) → ((files : A) → P files → Q files) → Told held P → Told held Q
told_weaker None P Q all told = tt
told_weaker (Some files) P Q all told = all files told

pub told_all : {A : Type 0} (held : Option A) (P : A → Type 0) → ((files : A) → held ≡ Some files → P files) → Told held P
told_all None P all = tt
told_all (Some files) P all = all files refl

-- what is told of an object that tells this
pub at_told : {A : Type 0} (held : Option A) (P : A → Type 0) (files : A) → held ≡ Some files → Told held P → P files
at_told {A} held P files e told = subst (λ (o : Option A). Told o P) e told

-- two facts of one object
pub told_both : {A : Type 0} (held : Option A) (P Q R : A → Type 0) → ((files : A) → P files → Q files → R files) → Told held P → Told held Q → Told held R
told_both None P Q R all first second = tt
told_both (Some files) P Q R all first second = all files first second

-- what both tell meets P where it stayed as it was and P holds of anything beside itself
pub told_as_before : {A : Type 0} (before after : Option A) (P : A → A → Type 0) → after ≡ before → ((files : A) → P files files) → ToldBoth before after P
told_as_before None after P e all = e
told_as_before {A} (Some files) after P e all = subst (λ (o : Option A). ToldBoth (Some files) o P) (sym e) (all files)

pub told_both_weaker : {A : Type 0} (before after : Option A) (P Q : A → A → Type 0) → ((old new : A) → P old new → Q old new) → ToldBoth before after P → ToldBoth before after Q
told_both_weaker None after P Q all told = told
told_both_weaker (Some old) None P Q all told = told
told_both_weaker (Some old) (Some new) P Q all told = all old new told

-- what is told of it before
pub told_before : {A : Type 0} (before after : Option A) (P : A → A → Type 0) (Q : A → Type 0) → ((old new : A) → P old new → Q old) → ToldBoth before after P → Told before Q
told_before None after P Q all told = tt
told_before (Some old) None P Q all told = absurd told
told_before (Some old) (Some new) P Q all told = all old new told

-- one step after what was told
pub told_then : {A : Type 0} (before after : Option A) (P : A → Type 0) (Q R : A → A → Type 0) → ((old new : A) → P old → Q old new → R old new) → Told before P → ToldBoth before after Q → ToldBoth before after R
told_then None after P Q R all first told = told
told_then (Some old) None P Q R all first told = told
told_then (Some old) (Some new) P Q R all first told = all old new first told

-- two steps one after the other
pub told_chain : {A : Type 0} (before middle after : Option A) (Q R S : A → A → Type 0) → ((old mid new : A) → Q old mid → R mid new → S old new) → ToldBoth before middle Q → ToldBoth middle after R → ToldBoth before after S
told_chain {A} None middle after Q R S all first second = subst (λ (m : Option A). ToldBoth m after R) first second
told_chain (Some old) None after Q R S all first second = absurd first
told_chain (Some old) (Some mid) None Q R S all first second = second
told_chain (Some old) (Some mid) (Some new) Q R S all first second = all old mid new first second
