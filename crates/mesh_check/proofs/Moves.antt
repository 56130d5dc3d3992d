-- What the code's tests of an edge row's ends say.
use Rattle.std.proofs.Common.{◌≡◌, ◌≢◌, Bool, true, false, not, ◌&&◌, IsTrue, refl, sym, ◌∙◌, subst, inl, inr}
use Rattle.std.specs.Ordering.{int_eq}
use Rattle.grid_geom.specs.declared.Point.{Point}
use Rattle.grid_geom.specs.declared.Edge.{Edge}
use Rattle.grid_geom.specs.Sides.{IsOnOpen}
use Rattle.grid_geom.proofs.Booleans.{point_eq, point_same}
use Rattle.mesh_check.specs.Walked.{DoesMove}

abbrev pub same : Point → Point → Bool
same u w = int_eq u.x w.x && int_eq u.y w.y

pub differ : (u w : Point) (r : Bool) → r ≡ not (same u w) → r ≡ true → u ≢ w
differ u w r e h f = let g : same u w ≡ true = point_same u w (same u w) refl f in absurd (cc)

pub differ_by : (u w : Point) (r : Bool) → r ≡ same u w → r ≡ false → u ≢ w
differ_by u w r e h f = let g : same u w ≡ true = point_same u w (same u w) refl f in absurd (cc)

-- the edge from p to q begins at `at` and ends elsewhere
pub record HasLeft (at p q : Point) (e : Edge) (s b : Bool) : Type 0 where
  pub start : p ≡ e.a
  pub end : q ≡ e.b
  pub start_test : s ≡ same p at
  pub starts : s ≡ true
  pub end_test : b ≡ not (same q at)
  pub moved : b ≡ true

-- and it ends at the last place, or is tried by `on_open`
pub to_last : (at last p q : Point) (e : Edge) (s b f : Bool) → HasLeft at p q e s b → f ≡ same q last → f ≡ true → (IsTrue f → DoesMove at last e) × (DoesMove at last e → IsTrue f)
to_last at last p q e s b f h t i = (
  λ _. record { begins = sym h.start ∙ point_eq p at s h.start_test h.starts; moves = λ j. differ q at b h.end_test h.moved (h.end ∙ j); along = inl (sym h.end ∙ point_eq q last f t i) },
  λ _. i,
)

pub inside : (at last p q : Point) (e : Edge) (s b f o : Bool) → HasLeft at p q e s b → f ≡ same q last → f ≡ false → (IsTrue o → IsOnOpen q at last) × (IsOnOpen q at last → IsTrue o) → (IsTrue o → DoesMove at last e) × (DoesMove at last e → IsTrue o)
inside at last p q e s b f o h t i k = (
  λ j. record { begins = sym h.start ∙ point_eq p at s h.start_test h.starts; moves = λ l. differ q at b h.end_test h.moved (h.end ∙ l); along = inr (subst (λ (z : Point). IsOnOpen z at last) h.end (k.0 j)) },
  λ m. elim m.along [ inl l ↦ absurd (differ_by q last f t i (h.end ∙ l)) | inr l ↦ k.1 (subst (λ (z : Point). IsOnOpen z at last) (sym h.end) l) ],
)
