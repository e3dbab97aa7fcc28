-- The gaps of a list, starting at a rank.
use Rattle.std.proofs.Common.{◌≡◌, ℕ, ◌+◌, ◌<◌, ◌≤◌, true, false, not, ◌&&◌, nat_le, List, [], ◌∷◌, refl, sym, ap, ◌∙◌, subst, inl, inr, arith}
use Rattle.std.proofs.Math.Bool.{and-false}
use Rattle.std.proofs.lemmas.Bool.{cases_lt}
use Rattle.std.proofs.lemmas.Bool.Decides.{nat_tests}
use Rattle.std.proofs.lemmas.List.Elements.{All-cons, All-nil}
use Rattle.rsb_integer.specs.Runs.{Interval, members, IsCanonicalFrom, IsCanonicalIn, AreRuns}
use Rattle.rsb_integer.specs.Selection.{Selection, Agree, complement}
use Rattle.rsb_integer.proofs.lemmas.Canonical.{canonical-lower}
use Rattle.rsb_integer.proofs.lemmas.Members.{members-below, members-head, members-tail}
use Rattle.rsb_integer.proofs.lemmas.Runs.{runs-along, runs-canonical, runs-from_canonical, runs-members}
use Rattle.rsb_integer.specs.declared.integer.Integer.{Ghosts as Elements}
use Rattle.rsb_streams.specs.NotIter.{NotReady}
use Rattle.rsb_streams.specs.Stream.{◌⊆◌, gaps_from, runs_by}
use Rattle.rsb_streams.proofs.lemmas.joining.Gathered.{runs-start}
use Rattle.rsb_streams.specs.declared.draw.Draw.{Ghosts as Stream}

-- ---- single ranks

-- No rank before the first is in a gap.
gaps-below : (first rank : ℕ) (selected : Selection) → rank < first → gaps_from first selected rank
    ≡ false
gaps-below first rank selected below =
    let test : nat_le first rank ≡ false = grind (arith, nat_tests) in
    ap (λ each. each && not (selected rank)) test

-- Starting at the first rank, a rank is in a gap exactly if it is not selected.
pub gaps-above : (first rank : ℕ) (selected : Selection) → first ≤ rank
    → gaps_from first selected rank ≡ not (selected rank)
gaps-above first rank selected above =
    let test : nat_le first rank ≡ true = grind (arith, nat_tests) in
    ap (λ each. each && not (selected rank)) test

-- A selected rank is in no gap.
gaps-inside : (first rank : ℕ) (selected : Selection) → selected rank ≡ true
    → gaps_from first selected rank ≡ false
gaps-inside first rank selected here =
    ap (λ each. nat_le first rank && not each) here ∙ and-false (nat_le first rank)

-- Starting at the first rank, a rank that is not selected is in a gap.
gaps-outside : (first rank : ℕ) (selected : Selection) → first ≤ rank → selected rank ≡ false
    → gaps_from first selected rank ≡ true
gaps-outside first rank selected above gap = gaps-above first rank selected above ∙ ap not gap

-- A rank in a gap is at least the first rank.
pub gaps-start : (first rank : ℕ) (selected : Selection) → gaps_from first selected rank ≡ true
    → first ≤ rank
gaps-start first rank selected gap = elim (cases_lt rank first) [
  | inl below ↦ let no = sym (gaps-below first rank selected below) ∙ gap in absurd (cc)
  | inr above ↦ above
]

-- ---- a run, and the given ones past it

-- Past the run, the gaps are those of the others.
pub gaps-past : (low : ℕ) (run : Interval) (given : List Interval) (rank : ℕ) → low ≤ run.first
    → run.first ≤ run.last → run.last < rank
    → gaps_from (run.last + 1) (members given) rank ≡ gaps_from low (members (run ∷ given)) rank
gaps-past low run given rank starts ordered past =
    gaps-above (run.last + 1) rank (members given) (omega arith)
    ∙ sym (ap not (members-tail run given rank (inr past)))
    ∙ sym (gaps-above low rank (members (run ∷ given)) (omega arith))

-- If a run starts where a gap might, the gaps are those past the run.
pub gaps-along : (n low : ℕ) (run : Interval) (given : List Interval) → low ≡ run.first
    → run.first ≤ run.last
    → Agree n (gaps_from (run.last + 1) (members given)) (gaps_from low (members (run ∷ given)))
gaps-along n low run given is ordered rank within = elim (cases_lt run.last rank) [
  | inl past ↦ gaps-past low run given rank (omega arith) ordered past
  | inr before ↦ gaps-below (run.last + 1) rank (members given) (omega arith)
      ∙ (elim (cases_lt rank low) [
        | inl below ↦ sym (gaps-below low rank (members (run ∷ given)) below)
        | inr from ↦ sym (gaps-inside low rank (members (run ∷ given))
            (members-head run given rank (omega arith) before))
      ])
]

-- The gaps are the gap before the run, then the gaps past it.
pub gap-then : (n low : ℕ) (gap run : Interval) (given runs : List Interval) → low < run.first
    → run.first ≤ run.last → run.last < n → gap.first ≡ low → gap.last + 1 ≡ run.first
    → IsCanonicalFrom (run.last + 2) given
    → AreRuns n (gaps_from (run.last + 1) (members given)) runs
    → AreRuns n (gaps_from low (members (run ∷ given))) (gap ∷ runs)
gap-then n low gap run given runs less ordered below from to canonical all =
    let later = gaps_from (run.last + 1) (members given) in
    let starts = runs-start n later (run.last + 1) runs all
    (λ rank within here. gaps-start (run.last + 1) rank (members given) here) in
    runs-from_canonical n (gaps_from low (members (run ∷ given))) (gap ∷ runs) (record {
      starts = omega arith;
      in_order = omega arith;
      rest = canonical-lower (run.last + 1) (gap.last + 2) runs (omega arith) starts;
    })
    (All-cons (λ (each : Interval). each.last < n) gap runs (omega arith)
    (runs-canonical n later runs all).within)
    (λ rank within. elim (cases_lt run.last rank) [
      | inl past ↦
          members-tail gap runs rank (inr (omega arith)) ∙ runs-members n later runs all rank within
          ∙ gaps-past low run given rank (omega arith) ordered past
      | inr before ↦ elim (cases_lt rank run.first) [
        | inr inside ↦
            members-tail gap runs rank (inr (omega arith))
            ∙ members-below (run.last + 1) runs rank starts (omega arith)
            ∙ sym (gaps-inside low rank (members (run ∷ given))
            (members-head run given rank inside before))
        | inl outside ↦ elim (cases_lt rank low) [
          | inl under ↦
              members-tail gap runs rank (inl (omega arith))
              ∙ members-below (run.last + 1) runs rank starts (omega arith)
              ∙ sym (gaps-below low rank (members (run ∷ given)) under)
          | inr here ↦
              members-head gap runs rank (omega arith) (omega arith)
              ∙ sym (gaps-outside low rank (members (run ∷ given)) here
              (members-tail run given rank (inl outside)
              ∙ members-below (run.last + 2) given rank canonical (omega arith)))
        ]
      ]
    ])

-- Past the greatest value there is no gap.
pub no-gaps : (n : ℕ) (selected : Selection) → AreRuns n (gaps_from n selected) []
no-gaps n selected =
    runs-from_canonical n (gaps_from n selected) [] tt (All-nil (λ (run : Interval). run.last < n))
    (λ rank within. sym (gaps-below n rank selected within))

-- If nothing is given, the only gap is to the greatest value.
pub gap-last : (n low : ℕ) (gap : Interval) → gap.first ≡ low → low ≤ gap.last → gap.last + 1 ≡ n
    → AreRuns n (gaps_from low (members [])) (gap ∷ [])
gap-last n low gap from order to =
    runs-from_canonical n (gaps_from low (members [])) (gap ∷ [])
    (record { starts = omega arith; in_order = omega arith; rest = tt })
    (All-cons (λ (each : Interval). each.last < n) gap [] (omega arith)
    (All-nil (λ (run : Interval). run.last < n)))
    (λ rank within. elim (cases_lt rank low) [
      | inl under ↦
          members-tail gap [] rank (inl (omega arith))
          ∙ sym (gaps-below low rank (members []) under)
      | inr here ↦
          members-head gap [] rank (omega arith) (omega arith)
          ∙ sym (gaps-outside low rank (members []) here refl)
    ])

-- ---- a complement that was just built

module _ {T N I : Type 0} (integer : Elements T N) (source : Stream I T N) (iter : I) (least : T)
    (is : integer.rank least ≡ 0) where
  open integer use {rank, value_count as n}

  -- If the input is ready and canonical, it is ready for a first gap at the least value.
  pub fresh-ready : source.can_draw iter → 2 ≤ n → source.may_give iter ⊆ IsCanonicalIn n
      → NotReady integer source iter least
  fresh-ready ready some canonical = record {
    callable = ready;
    value = omega arith;
    ahead = λ runs at. subst (λ low. IsCanonicalFrom low runs) (sym is) (canonical runs at).apart;
  }

  -- The gaps from the least value onwards are the complement.
  pub fresh-gaps : runs_by n (gaps_from (rank least)) (source.may_give iter) ⊆ runs_by n complement
      (source.may_give iter)
  fresh-gaps runs at = λ nothing. at (λ given might all. nothing given might
      (runs-along n (gaps_from (rank least) (members given)) (complement (members given)) runs
      (λ place within. gaps-above (rank least) place (members given) (omega arith)) all))
