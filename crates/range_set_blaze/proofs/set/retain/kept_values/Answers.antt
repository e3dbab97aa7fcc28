use Rattle.std.proofs.Common.{◌≡◌, ◌+◌, ◌<◌, ◌++◌, ◌∷◌, ◌∙◌, [], append-nil, arith, refl}
use Rattle.range_set_blaze.specs.Retain.{left_runs, past_piece}
use Rattle.range_set_blaze.proofs.lemmas.gathering.AskedValues.{answered-all, answered-next, below-lower, canonical-below, left_runs-next, listed-next, next-member}
use Rattle.range_set_blaze.proofs.set.retain.kept_values.Goals as goal
use Rattle.range_set_blaze.proofs.set.retain.kept_values.Goals.{then-f+in_ok-grown, else-f}

-- At first all members are left.
pub loop-left-init : goal.loop-left-init
loop-left-init g c =
    let rank = g.T.Integer.rank in
    let old = c.args.runs.now in
    let canonical = c.requires.canonical in
    let all : left_runs rank c.next_run-left.result c.next_run-left.new.entries ≡ old =
    left_runs-next rank c.next_run-left.result c.iter-entries.result c.next_run-left.new.entries
    c.next_run-left.ensures ∙ c.iter-entries.ensures.runs in
    rw (all, c.new-kept.ensures) (record {
      canonical = canonical-below g.T.Integer.value_count 0 old canonical.apart canonical.within;
      order = tt;
      value = omega arith;
      empty = λ none. (none, refl);
      asked = [];
      answered = record {
        callable = λ always. always;
        calls = refl;
        within = λ point member. member;
        exact = λ keeps answers. (answers, λ point. refl);
      };
      listed = refl;
    })

-- The closure may be called on the first member that is left.
pub f-requires : goal.f-requires
f-requires g c =
    let rank = g.T.Integer.rank in
    let before = c.loop-left.invariant in
    let canonical = rw c.in-Some.is at before.canonical in
    c.requires.callable.at _ _ (next-member rank g.T.Integer.value_count g.F.FnMut c.args.f
    c.args.runs.now c.in-Some.run'.start _ _ before.answered
    (rw c.in-Some.is at before.listed) refl canonical.1 canonical.2)

-- The closure has been called on one member more.
pub loop-left-preserved : goal.loop-left-preserved
loop-left-preserved g c =
    let rank = g.T.Integer.rank in
    let n = g.T.Integer.value_count in
    let value = c.in-Some.run'.start in
    let rest = left_runs rank c.next_left-left.result c.next_left-left.new.entries in
    let past = c.next_left-left.ensures in
    let before = c.loop-left.invariant in
    let canonical = rw c.in-Some.is at before.canonical in
    let some = rw c.in-Some.is at before.empty in
    let in_type : rank value < n = omega (arith, canonical.1, canonical.2) in
    let listed = listed-next rank before.asked value _ _ _ (rw c.in-Some.is at before.listed) past.listed
    in
    elim c.if-f.branch [
      | then-f+in_ok-grown w ↦ rw (w.kept-is, w.piece-is) (
          let grown = w.in_ok-grown.ensures in
          record {
            canonical = rw grown.last past.canonical;
            order = grown.order;
            value = omega (arith, grown.last, in_type);
            empty = λ none. absurd (cc (some none).0);
            asked = before.asked ++ value ∷ [];
            answered = answered-next rank n g.F.FnMut c.args.f c.f.new.self _ _ c.f.result
                before.answered c.f.ensures in_type (rw w.if-f.true grown.added);
            listed = listed;
          })
      | else-f w ↦ rw (w.kept-is, w.piece-is) (record {
        canonical = below-lower n (rank value + 1) (past_piece rank c.loop-left.piece) rest
            (omega (arith, canonical.0)) past.canonical;
        order = before.order;
        value = before.value;
        empty = λ none. absurd (cc (some none).0);
        asked = before.asked ++ value ∷ [];
        answered = answered-next rank n g.F.FnMut c.args.f c.f.new.self _ _ c.f.result before.answered
            c.f.ensures in_type (rw w.if-f.false (λ point. refl));
        listed = listed;
      })
    ]

-- The closure has been called on all members.
pub returns : goal.returns
returns g c =
    let listed = rw c.in_default.is at c.loop-left.invariant.listed in
    let all = answered-all g.T.Integer.rank g.T.Integer.value_count g.F.FnMut c.args.f
    c.args.runs.now c.put_last.new.kept
    c.loop-left.invariant.answered (listed ∙ append-nil _) c.in_ok-put_last.ensures.added in
    record {
      within = all.0;
      exact = all.1;
      asked = all.2;
      err = tt;
      empty = λ none. refl;
    }
