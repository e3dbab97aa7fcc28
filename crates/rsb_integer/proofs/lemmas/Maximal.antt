-- A selected rank lies in a maximal run.
use Rattle.std.proofs.Common.{◌≡◌, ℕ, zero, suc, true, false, ◌+◌, ◌-◌, ◌<◌, ◌≤◌, ap, ◌∙◌, inl, inr, arith}
use Rattle.std.proofs.lemmas.Bool.{cases_lt}
use Rattle.rsb_integer.specs.Runs.{Interval, covers, IsMaximalRun}
use Rattle.rsb_integer.specs.Selection.{Selection}
use Rattle.rsb_integer.proofs.lemmas.List.{true_or_false}
use Rattle.rsb_integer.proofs.lemmas.Members.{covers-bounds, covers-inside}

-- Down from a selected rank there is a `first` such that all ranks between are selected. The one
-- before `first`, if there is one, is not.
run-first : (selected : Selection) (rank : ℕ) → selected rank ≡ true
    → record {
      first : ℕ;
      up_to_rank : first ≤ rank;
      whole : (other : ℕ) → first ≤ other → other ≤ rank → selected other ≡ true;
      begins_here : 0 < first → selected (first - 1) ≡ false;
    }
run-first selected zero here = record {
  first = 0;
  up_to_rank = omega arith;
  whole = λ other low high. let same : other ≡ 0 = omega arith in ap selected same ∙ here;
  begins_here = λ above. absurd (omega arith);
}
run-first selected (suc rank) here = elim (true_or_false (selected rank)) [
  | inl before ↦
      let found = run-first selected rank before in
      let within = found.up_to_rank in
      record {
        first = found.first;
        up_to_rank = omega arith;
        whole = λ other low high. elim (cases_lt rank other) [
          | inl last ↦ let same : other ≡ suc rank = omega arith in ap selected same ∙ here
          | inr earlier ↦ found.whole other low earlier
        ];
        begins_here = found.begins_here;
      }
  | inr gap ↦ record {
    first = suc rank;
    up_to_rank = omega arith;
    whole = λ other low high. let same : other ≡ suc rank = omega arith in ap selected same ∙ here;
    begins_here = λ above. let same : suc rank - 1 ≡ rank = omega arith in ap selected same ∙ gap;
  }
]

-- Up from a selected rank there is a `last` such that all ranks between are selected. The next one,
-- if it is in the type, is not. The type has `more` ranks above the rank.
run-last : (selected : Selection) (n rank more : ℕ) → rank + more + 1 ≡ n → selected rank ≡ true
    → record {
      last : ℕ;
      from_rank : rank ≤ last;
      in_type : last < n;
      whole : (other : ℕ) → rank ≤ other → other ≤ last → selected other ≡ true;
      ends_here : last + 1 < n → selected (last + 1) ≡ false;
    }
run-last selected n rank zero end here = record {
  last = rank;
  from_rank = omega arith;
  in_type = omega arith;
  whole = λ other low high. let same : other ≡ rank = omega arith in ap selected same ∙ here;
  ends_here = λ above. absurd (omega arith);
}
run-last selected n rank (suc more) end here = elim (true_or_false (selected (rank + 1))) [
  | inl after ↦
      let found = run-last selected n (rank + 1) more (omega arith) after in
      let within = found.from_rank in
      record {
        last = found.last;
        from_rank = omega arith;
        in_type = found.in_type;
        whole = λ other low high. elim (cases_lt rank other) [
          | inl later ↦ found.whole other (omega arith) high
          | inr first ↦ let same : other ≡ rank = omega arith in ap selected same ∙ here
        ];
        ends_here = found.ends_here;
      }
  | inr gap ↦ record {
    last = rank;
    from_rank = omega arith;
    in_type = omega arith;
    whole = λ other low high. let same : other ≡ rank = omega arith in ap selected same ∙ here;
    ends_here = λ above. gap;
  }
]

-- A selected rank of the type lies in a maximal run.
pub maximal-around : (n : ℕ) (selected : Selection) (rank : ℕ) → rank < n → selected rank ≡ true
    → (run : Interval) × IsMaximalRun n selected run × (covers run rank ≡ true)
maximal-around n selected rank below here =
    let down = run-first selected rank here in
    let up = run-last selected n rank (n - rank - 1) (omega arith) here in
    let low = down.up_to_rank in
    let high = up.from_rank in
    let run : Interval = record { first = down.first; last = up.last } in
    let maximal : IsMaximalRun n selected run = record {
      in_order = omega arith;
      in_type = up.in_type;
      whole = λ other within.
          let bounds = covers-bounds run other within in
          elim (cases_lt rank other) [
            | inl above ↦ up.whole other (omega arith) bounds.1
            | inr before ↦ down.whole other bounds.0 before
          ];
      begins_here = down.begins_here;
      ends_here = up.ends_here;
    } in
    (run, maximal, covers-inside run rank low high)
