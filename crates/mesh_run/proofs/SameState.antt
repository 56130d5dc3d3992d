-- What applies to a state depends on its points and its front alone: not on the next line number, nor on the elements.
use Rattle.std.proofs.Common.{◌≡◌, ℕ, List, subst, Option, Some, None, Result, Ok, Err, IfOk, IfSome, IfNone, is_some, false}
use Rattle.rule_reader.specs.declared.rule.Rule.{Rule}
use Rattle.size_field.specs.Size.{SizeField}
use Rattle.state_law.specs.State.{State}
use Rattle.rule_match.specs.declared.application.Application.{Application}
use Rattle.rule_match.specs.Candidate.{Attempt, IsCandidate}
use Rattle.rule_match.specs.Least.{IsOf, HasNone}
use Rattle.rule_match.specs.Best.{IsBest}
use Rattle.rule_match.specs.declared.progress.Note.{Note}
use Rattle.rule_match.specs.Refused.{IsAllowed, IsRefusedBy}

-- the two states have the same points and the same front
pub record AreSame (st other : State) : Type 0 where
  pub points : st.points ≡ other.points
  pub front : st.front ≡ other.front

pub turned : (st other : State) → AreSame st other → AreSame other st
turned st other h = record { points = λ i. sym_points i; front = λ i. sym_front i }
  where
    sym_points : other.points ≡ st.points
    sym_points = cc (h.points)

    sym_front : other.front ≡ st.front
    sym_front = cc (h.front)

-- the state with another next number and other elements
abbrev pub other_ends : State → State → State
other_ends st other = record { points = st.points; front = st.front; next = other.next; elements = other.elements }

candidate_here : (st other : State) (t : Attempt) → IsCandidate st t → IsCandidate (other_ends st other) t
candidate_here st other t c = record {
  live = c.live;
  quality = c.quality;
  counted = c.counted;
  different = c.different;
  on_front = c.on_front;
  in_range = c.in_range;
  at_start = c.at_start;
  at_end = c.at_end;
  at_lines = c.at_lines;
  points_tolerated = c.points_tolerated;
  lines_tolerated = c.lines_tolerated;
  turned = c.turned;
  made_on_grid = c.made_on_grid;
  made_new = c.made_new;
  made_different = c.made_different;
  zone_on_grid = c.zone_on_grid;
  zone_convex = c.zone_convex;
  no_point_in_zone = c.no_point_in_zone;
  no_line_in_zone = c.no_line_in_zone;
  glued = c.glued;
}

-- the state with the same ends, once by the points and the front of each
pub ends_are : (st other : State) → AreSame st other → other_ends st other ≡ other
ends_are st other h = λ i. record { points = h.points i; front = h.front i; next = other.next; elements = other.elements }

-- a candidate of the one is a candidate of the other
pub same_candidate : (st other : State) (t : Attempt) → AreSame st other → IsCandidate st t → IsCandidate other t
same_candidate st other t h c = subst (λ (s : State). IsCandidate s t) (ends_are st other h) (candidate_here st other t c)

module _ (sizes : SizeField) (rules : List Rule) (line class : ℕ) where
  of_here : (st other : State) (t : Attempt) → IsOf sizes st rules line class t → IsOf sizes (other_ends st other) rules line class t
  of_here st other t h = record {
    on_front = h.on_front;
    same_line = h.same_line;
    framed = h.framed;
    same_class = h.same_class;
    numbered = h.numbered;
    is_rule = h.is_rule;
  }

  same_of : (st other : State) (t : Attempt) → AreSame st other → IsOf sizes st rules line class t → IsOf sizes other rules line class t
  same_of st other t h o = subst (λ (s : State). IsOf sizes s rules line class t) (ends_are st other h) (of_here st other t o)

  pub same_none : (st other : State) → AreSame st other → HasNone sizes st rules line class → HasNone sizes other rules line class
  same_none st other h n = record { none = λ t o c. n.none t (same_of other st t (turned st other h) o) (same_candidate other st t (turned st other h) c) }

  allowed_here : (st other : State) (t : Attempt) → IsAllowed st t → IsAllowed (other_ends st other) t
  allowed_here st other t a = record {
    live = a.live;
    quality = a.quality;
    counted = a.counted;
    different = a.different;
    in_range = a.in_range;
    at_start = a.at_start;
    at_end = a.at_end;
    points_tolerated = a.points_tolerated;
    lines_tolerated = a.lines_tolerated;
    turned = a.turned;
    made_on_grid = a.made_on_grid;
    made_different = a.made_different;
    zone_on_grid = a.zone_on_grid;
    zone_convex = a.zone_convex;
  }

  refused_here : (st other : State) (notes : List Note) → IsRefusedBy sizes st rules line class notes → IsRefusedBy sizes (other_ends st other) rules line class notes
  refused_here st other notes r = record {
    excused = λ t o a fits. r.excused t (of_here (other_ends st other) st t o) (allowed_here (other_ends st other) st t a) (record { on_front = fits.on_front; at_lines = fits.at_lines });
  }

  -- what is refused by notes in the one is so in the other
  pub same_refused : (st other : State) (notes : List Note) → AreSame st other → IsRefusedBy sizes st rules line class notes → IsRefusedBy sizes other rules line class notes
  same_refused st other notes h r = subst (λ (s : State). IsRefusedBy sizes s rules line class notes) (ends_are st other h) (refused_here st other notes r)

  best_here : (st other : State) (a : Application) → IsBest sizes st rules line class a → IsBest sizes (other_ends st other) rules line class a
  best_here st other a b = record {
    attempt = b.attempt;
    least = record {
      of = of_here st other b.attempt b.least.of;
      candidate = candidate_here st other b.attempt b.least.candidate;
      least = λ t o c. b.least.least t (of_here (other_ends st other) st t o) (candidate_here (other_ends st other) st t c);
    };
    gives = b.gives;
  }

  pub same_best : (st other : State) (a : Application) → AreSame st other → IsBest sizes st rules line class a → IsBest sizes other rules line class a
  same_best st other a h b = subst (λ (s : State). IsBest sizes s rules line class a) (ends_are st other h) (best_here st other a b)

-- what is known of what was found
pub of_found : {A E : Type 0} (P Q : A → Type 0) (r : Result (Option A) E) → ((a : A) → P a → Q a) → IfOk r (λ found. IfSome found P) → IfOk r (λ found. IfSome found Q)
of_found P Q (Ok (Some a)) f h = f a h
of_found P Q (Ok None) f h = tt
of_found P Q (Err e) f h = tt

pub of_none : {A E : Type 0} (P Q : Type 0) (r : Result (Option A) E) → (P → Q) → IfOk r (λ found. IfNone found P) → IfOk r (λ found. IfNone found Q)
of_none P Q (Ok (Some a)) f h = tt
of_none P Q (Ok None) f h = f h
of_none P Q (Err e) f h = tt

pub none_there : {A : Type 0} (P : Type 0) (o : Option A) → is_some o ≡ false → IfNone o P → P
none_there P (Some a) e h = absurd (cc)
none_there P None e h = h
