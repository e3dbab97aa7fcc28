use Rattle.std.proofs.Common.{◌≡◌, ℕ, List, Err, Ok, sym, subst, rules}
use Rattle.std.specs.declared.ops.RangeInclusive.{RangeInclusive}
use Rattle.rsb_integer.specs.Rank.{intervals_of}
use Rattle.rsb_integer.specs.Runs.{members}
use Rattle.rsb_storage.specs.Set.{IsSetOf}
use Rattle.rsb_range_text.specs.Text.{IsFirstUnexpected, Spells}
use Rattle.rsb_range_text.specs.declared.parse_error.ParseError.TheVariants.{Unexpected}
use Rattle.rsb_range_text.proofs.lemmas.Read.{unexpected-none}
use Rattle.range_set_blaze.proofs.lemmas.texts.Reread.{ranges_of_runs, runs-spelled, set-reread}
use Rattle.range_set_blaze.proofs.set.RangeSetBlaze.parse.Goals as goal

-- A text that spells ranges has no unexpected byte.
pub returns-in_err-ranges-clause-refused : goal.returns-in_err-ranges-clause-refused
returns-in_err-ranges-clause-refused g c = λ ranges place h is.
    let found : (at : ℕ) → c.from_residual.result ≡ Err (Unexpected at)
    → IsFirstUnexpected g.T.ParseInteger.number g.T.ParseInteger.fits c.args.text.now at = search rules in
    unexpected-none g.T.ParseInteger.number g.T.ParseInteger.fits c.args.text.now place (found place is) ranges h

pub returns-clause-spelled : goal.returns-clause-spelled
returns-clause-spelled g c = (
  c.in_ok-ranges.ranges.items,
  subst (λ (text : List ℕ). Spells g.T.ParseInteger.number g.T.ParseInteger.fits text c.in_ok-ranges.ranges.items) c.as_bytes.ensures.value
      c.in_ok-ranges.ensures.spelled,
  c.in_ok-set.ensures.members,
)

pub returns-clause-only : goal.returns-clause-only
returns-clause-only g c = λ ranges h.
    let same = c.in_ok-ranges.ensures.only ranges
    (subst (λ (text : List ℕ). Spells g.T.ParseInteger.number g.T.ParseInteger.fits text ranges) (sym c.as_bytes.ensures.value) h) in
    subst (λ (items : List (RangeInclusive g.row.T.Denot)).
    IsSetOf c.in_ok-set.set (members (intervals_of g.T.Integer.rank items))) (sym same)
    c.in_ok-set.ensures.members

-- What `Display` writes for runs spells these runs, and is read as the set of them.
pub returns-clause-written : goal.returns-clause-written
returns-clause-written g c = λ runs canonical is.
    let laws = g.met.T.Integer in
    let rank = g.T.Integer.rank in
    let n = g.T.Integer.value_count in
    let spelled = runs-spelled rank n g.T.Integer.value_at laws.ranks g.T.ParseInteger.number g.T.ParseInteger.fits g.T.Debug.debug_output
    g.met.T.ParseInteger.numbers runs c.args.text.now canonical is in
    set-reread rank n g.T.Integer.value_at laws.ranks c.in_ok-set.set runs c.in_ok-set.ensures.runs
    canonical (returns-clause-only g c (ranges_of_runs rank n g.T.Integer.value_at laws.ranks runs) spelled)

pub returns-in_err-ranges-clause-taken : goal.returns-in_err-ranges-clause-taken
returns-in_err-ranges-clause-taken g c = λ runs place canonical is err.
    let laws = g.met.T.Integer in
    let rank = g.T.Integer.rank in
    let n = g.T.Integer.value_count in
    let spelled = runs-spelled rank n g.T.Integer.value_at laws.ranks g.T.ParseInteger.number g.T.ParseInteger.fits g.T.Debug.debug_output
    g.met.T.ParseInteger.numbers runs c.args.text.now canonical is in
    returns-in_err-ranges-clause-refused g c
    (ranges_of_runs rank n g.T.Integer.value_at laws.ranks runs) place spelled err

-- A set is no error.
not_err : {X Y : Type 0} (value : X) (error : Y) → Ok value ≡ Err error → ⊥
not_err value error is = absurd (cc)

pub returns-clause-unexpected : goal.returns-clause-unexpected
returns-clause-unexpected g c place is =
    absurd (not_err c.in_ok-set.set (Unexpected place) is)

pub returns-clause-refused : goal.returns-clause-refused
returns-clause-refused g c ranges place spelled is =
    not_err c.in_ok-set.set (Unexpected place) is

pub returns-clause-taken : goal.returns-clause-taken
returns-clause-taken g c runs place canonical written is =
    not_err c.in_ok-set.set (Unexpected place) is
