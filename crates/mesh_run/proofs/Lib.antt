pub mod SamePoints
pub mod Listed
pub mod Opened
pub mod Bounded
pub mod Ranges
pub mod Named
pub mod Ordered
-- Openings whose segments are cut.
pub mod CutFronts
pub mod Begun
-- Applications: new numbers, steps.
pub mod Numbers
pub mod Steps
-- Sums over a run.
pub mod Areas
pub mod Covered
-- What a run by rules names.
pub mod NamedRuns
-- That a run is the only one.
pub mod OneRun
-- The mesh of a run.
pub mod Written
-- How runs end.
pub mod Ended
-- Runs by rules. SameState: what applies depends on points and front alone.
pub mod SameState
-- LinesUp: front lines by rising numbers.
pub mod LinesUp
-- Turns: what comes before the first turn on the worklist is refused. Searched: what is remembered depends on points and front alone.
pub mod Turns
pub mod Searched
-- Put: an application put on a front.
pub mod Put
-- GoesOn: a run goes on by one application.
pub mod GoesOn
-- OpenedRun: a run before its first application.
pub mod OpenedRun
-- IdleRun: a run by rules that never apply.
pub mod IdleRun
-- Zipped: lists in step with each other.
pub mod Zipped
-- StillNone: a refusal stays true.
pub mod StillNone
-- Conforming: the states of all domains conform.
pub mod Conforming
-- Strides: pieces lead along their segment.
pub mod Strides
-- Made: new points are corners of elements.
pub mod Made
-- WholePlaces: the mesh's points have different places.
pub mod WholePlaces
-- WholeSides: sides and rows agree.
pub mod WholeSides
-- DoneWhole: the mesh of a run that is done is whole.
pub mod DoneWhole
-- WholeRows: the edge rows walk the segments.
pub mod WholeRows
-- Touched: boxes of elements.
pub mod HeldAreas
-- Tried: lines put on the worklist. Regions: entries put in and taken out. What is left of refusals.
pub mod Tried
pub mod Regions
pub mod Forgotten
pub mod Noted
-- Reaches: reaches by class.
pub mod Reaches
-- Followed: the state after an application, beside the one before it. Missed: a refused pair that it doesn't touch. StillKept: one that was looked at again.
pub mod Followed
pub mod Missed
pub mod StillRemembered
pub mod StillKept
-- LookedAt: what is remembered after looking again. Stale: notes that hold no more.
pub mod LookedAt
pub mod Stale
-- Dues: what is due of a front.
pub mod Dues
-- WholeReaches: what meets a region meets the whole reach of its line.
pub mod WholeReaches
-- Paid: what an application pays for.
pub mod Paid
-- Changed: lines that join or are touched, counted.
pub mod Changed
-- TrialsMade: trials made, and what is due, over a run.
pub mod TrialsMade
