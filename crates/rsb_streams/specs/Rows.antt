-- Streams as rows. A row is a record of all ghost members of `Draw`: it states when a stream is
-- ready, what a draw returns and leaves, how many ranges are left, and what may still come
-- (docs/DECISIONS.md, rows).
use Rattle.std.specs.Iterator.{Count}
use Rattle.std.specs.Prelude.{List, Option}
use Rattle.std.specs.declared.ops.RangeInclusive.{RangeInclusive}
use Rattle.rsb_integer.specs.declared.integer.Integer.{Ghosts as Elements}
use Rattle.rsb_integer.specs.Runs.{Interval, IsCanonicalIn}
use Rattle.rsb_streams.specs.Stream.{Outcomes, Answers, AnswersAndAsks, AnswersAndRests, HasSortedStarts, Keeps}
use Rattle.rsb_streams.specs.declared.draw.Draw.{Ghosts as Stream}

-- Whether each draw fits what may be given: it returns what may come next, and leaves what may come
-- after it.
abbrev pub IsAnswered : {S T N : Type 0} → Elements T N → Stream S T N → Type 0
IsAnswered {S} {T} integer stream = (s t : S) (item : Option (RangeInclusive T))
    → stream.draw_gives s item t → Answers integer.rank stream.may_give s item t

-- Whether a ready stream may give something, all that it may give satisfies the law, and it ends.
abbrev pub KeepsLaw : {S T N : Type 0} → (List Interval → Type 0) → Stream S T N → Type 0
KeepsLaw {S = S} law stream = (s : S) → stream.can_draw s
    → Keeps law (stream.may_give s) (stream.draws_left s)

-- Whether a ready stream is sorted by start.
abbrev pub IsSorted : {S T N : Type 0} → Elements T N → Stream S T N → Type 0
IsSorted integer stream = KeepsLaw (HasSortedStarts integer.value_count) stream

-- Whether a ready stream is canonical.
abbrev pub IsDisjoint : {S T N : Type 0} → Elements T N → Stream S T N → Type 0
IsDisjoint integer stream = KeepsLaw (IsCanonicalIn integer.value_count) stream

-- A stream whose draws fit what may be given. After `None`, it is ready, and nothing comes.
abbrev pub stream_answering : {S T N : Type 0} → Elements T N → (S → Type 0) → (S → Count)
    → (S → Outcomes) → Stream S T N
stream_answering integer can_draw draws_left may_give = record {
  can_draw = can_draw;
  draw_gives = AnswersAndRests integer.rank can_draw may_give;
  draws_left = draws_left;
  may_give = may_give;
}

-- Such a stream, whose draws also satisfy `asks`: what they ask of the streams that it is built
-- from.
abbrev pub stream_asking : {S T N : Type 0} → Elements T N
    → (S → Option (RangeInclusive T) → S → Type 0)
    → (S → Type 0) → (S → Count) → (S → Outcomes) → Stream S T N
stream_asking integer asks can_draw draws_left may_give = record {
  can_draw = can_draw;
  draw_gives = AnswersAndAsks integer.rank can_draw may_give asks;
  draws_left = draws_left;
  may_give = may_give;
}

-- The stream whose draws are those of a part of its state.
abbrev pub stream_through : {S P T N : Type 0} → (S → P) → Stream P T N → Stream S T N
stream_through part stream = record {
  can_draw = λ s. stream.can_draw (part s);
  draw_gives = λ s item t. stream.draw_gives (part s) item (part t);
  draws_left = λ s. stream.draws_left (part s);
  may_give = λ s. stream.may_give (part s);
}
