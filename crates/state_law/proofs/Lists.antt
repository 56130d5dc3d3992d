-- What holds of each element of a list: from one list to another, both facts at once, rows and columns.
use mathlib.Core.List.{List, [], ◌∷◌, ◌++◌}
use mathlib.Core.Logic.{inl, inr}
use mathlib.Core.Path.{subst}
use Rattle.std.proofs.lemmas.List.Elements.{All-from_recursion, All-get_or}
use Rattle.std.specs.List.{AllByRecursion, Any}
use Rattle.grid_geom.specs.declared.Point.{Point}
use Rattle.grid_geom.specs.declared.Edge.{Edge}
use Rattle.grid_geom.specs.Polygon.{way_round, sides}
use Rattle.state_law.specs.Free.{IsIn}

pub all_map : {X : Type 0} (P Q : X → Type 0) → ((x : X) → P x → Q x) → (xs : List X) → AllByRecursion P xs → AllByRecursion Q xs
all_map P Q f [] h = tt
all_map P Q f (x ∷ xs) h = (f x h.0, all_map P Q f xs h.1)

pub all_both : {X : Type 0} (P Q R : X → Type 0) → ((x : X) → P x → Q x → R x) → (xs : List X) → AllByRecursion P xs → AllByRecursion Q xs → AllByRecursion R xs
all_both P Q R f [] h i = tt
all_both P Q R f (x ∷ xs) h i = (f x h.0 i.0, all_both P Q R f xs h.1 i.1)

pub all_of : {X : Type 0} (P : X → Type 0) → ((x : X) → P x) → (xs : List X) → AllByRecursion P xs
all_of P f [] = tt
all_of P f (x ∷ xs) = (f x, all_of P f xs)

pub all_append : {X : Type 0} (P : X → Type 0) (xs ys : List X) → AllByRecursion P xs → AllByRecursion P ys → AllByRecursion P (xs ++ ys)
all_append P [] ys h i = i
all_append P (x ∷ xs) ys h i = (h.0, all_append P xs ys h.1 i)

pub all_first : {X : Type 0} (P : X → Type 0) (xs ys : List X) → AllByRecursion P (xs ++ ys) → AllByRecursion P xs
all_first P [] ys h = tt
all_first P (x ∷ xs) ys h = (h.0, all_first P xs ys h.1)

pub all_second : {X : Type 0} (P : X → Type 0) (xs ys : List X) → AllByRecursion P (xs ++ ys) → AllByRecursion P ys
all_second P [] ys h = h
all_second P (x ∷ xs) ys h = all_second P xs ys h.1

-- rows and columns
columns_none : {X Y : Type 0} (P : X → Y → Type 0) (ys : List Y) → AllByRecursion (λ y. AllByRecursion (λ x. P x y) []) ys
columns_none P [] = tt
columns_none P (y ∷ ys) = (tt, columns_none P ys)

column_more : {X Y : Type 0} (P : X → Y → Type 0) (x : X) (xs : List X) (ys : List Y) → AllByRecursion (P x) ys → AllByRecursion (λ y. AllByRecursion (λ x. P x y) xs) ys → AllByRecursion (λ y. AllByRecursion (λ x. P x y) (x ∷ xs)) ys
column_more P x xs [] h i = tt
column_more P x xs (y ∷ ys) h i = ((h.0, i.0), column_more P x xs ys h.1 i.1)

pub turned_table : {X Y : Type 0} (P : X → Y → Type 0) (xs : List X) (ys : List Y) → AllByRecursion (λ x. AllByRecursion (P x) ys) xs → AllByRecursion (λ y. AllByRecursion (λ x. P x y) xs) ys
turned_table P [] ys h = columns_none P ys
turned_table P (x ∷ xs) ys h = column_more P x xs ys h.0 (turned_table P xs ys h.1)

-- what holds of all edges holds of one of them
pub at_edge : (P : Edge → Type 0) (e : Edge) (es : List Edge) → AllByRecursion P es → IsIn e es → P e
at_edge P e [] h i = absurd i
at_edge P e (f ∷ es) h (inl i) = subst P i h.0
at_edge P e (f ∷ es) h (inr i) = at_edge P e es h.1 i

-- what holds of all corners holds of both ends of a side
pub ends_all : (P : Point → Type 0) (first from : Point) (ws : List Point) → P first → P from → AllByRecursion P ws → AllByRecursion (λ e. P e.a × P e.b) (way_round first from ws)
ends_all P first from [] h i all = ((i, h), tt)
ends_all P first from (to ∷ ws) h i all = ((i, all.0), ends_all P first to ws h all.0 all.1)

pub side_ends : (P : Point → Type 0) (cs : List Point) → AllByRecursion P cs → AllByRecursion (λ e. P e.a × P e.b) (sides cs)
side_ends P [] h = tt
side_ends P (o ∷ ws) h = ends_all P o o ws h.0 h.0 h.1

-- what holds of each holds of the one that is named
pub at_named : (P : Edge → Type 0) (Q : Edge → Type 0) (es : List Edge) → AllByRecursion Q es → (n : Any P es) → Q (n.1)
at_named P Q es all n = subst Q n.3 (All-get_or Q es n.0 n.1 n.2 (All-from_recursion Q es all))
