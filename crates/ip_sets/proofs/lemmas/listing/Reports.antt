-- Reports of lines without a meaning.
use Rattle.std.proofs.Common.{◌≡◌, ◌∙◌, inl, inr, ℕ, ◌+◌, false, List, [], ◌∷◌, ◌++◌, length, refl, sym, ap, subst, append_assoc, arith}
use Rattle.std.proofs.lemmas.List.{flat_map_more}
use Rattle.std.proofs.lemmas.List.Elements.{All-cons, All-nil}
use Rattle.std.specs.Prelude.{All}
use Rattle.range_set_blaze.specs.Selection.{Selection}
use Rattle.ip_sets.specs.declared.line.Line.{Line}
use Rattle.ip_sets.specs.declared.line.Line.TheVariants.{Nothing, V4, V6}
use Rattle.ip_sets.specs.declared.list.bad_line.BadLine.{BadLine}
use Rattle.ip_sets.specs.Excerpt.{excerpt, excerpt_of}
use Rattle.ip_sets.specs.Line.{IsLine, MeansV4, MeansV6, content}
use Rattle.ip_sets.specs.List.{AddsAddressesOf, AreReportsFrom, IsBadLine, IsGoodLine, IsReportOf, bad_line_text, report_line, reports_text}
use Rattle.ip_sets.specs.Reason.{IsReason}

-- ---- one more line

-- A line with a meaning adds no report.
pub reports_good : (number : ℕ) (list : List (List ℕ)) (line : List ℕ) (reports : List BadLine)
    → AreReportsFrom number list reports → IsGoodLine line
    → AreReportsFrom number (list ++ line ∷ []) reports
reports_good number [] line reports none good = inl (good, none)
reports_good number (first ∷ list) line reports (inl (is, later)) good =
    inl (is, reports_good (number + 1) list line reports later good)
reports_good number (first ∷ list) line reports (inr (bad, others, parts, report, later)) good =
    inr (bad, others, parts, report, reports_good (number + 1) list line others later good)

-- A line without a meaning adds its report.
pub reports_bad : (number : ℕ) (list : List (List ℕ)) (line : List ℕ) (reports : List BadLine)
    (bad : BadLine) (place : ℕ) → place ≡ number + length list
    → AreReportsFrom number list reports → IsReportOf bad place line
    → AreReportsFrom number (list ++ line ∷ []) (reports ++ bad ∷ [])
reports_bad number [] line reports bad place at none report = inr (
  bad,
  [],
  rw none refl,
  subst (λ n. IsReportOf bad n line) (omega (arith, at)) report,
  refl,
)
reports_bad number (first ∷ list) line reports bad place at (inl (is, later)) report =
    inl (is, reports_bad (number + 1) list line reports bad place (omega (arith, at)) later report)
reports_bad number (first ∷ list) line reports bad place at (inr (each, others, parts, about, later)) report = inr (
  each,
  others ++ bad ∷ [],
  ap (λ all. all ++ bad ∷ []) parts,
  about,
  reports_bad (number + 1) list line others bad place (omega (arith, at)) later report,
)

-- If there is no report, each line has a meaning.
pub all_good : (number : ℕ) (list : List (List ℕ)) → AreReportsFrom number list []
    → All IsGoodLine list
all_good number [] none = All-nil IsGoodLine
all_good number (line ∷ list) (inl (good, later)) =
    All-cons IsGoodLine line list good (all_good (number + 1) list later)
all_good number (line ∷ list) (inr (bad, others, parts, report, later)) = absurd cc parts

-- ---- what a line without a meaning adds

-- It adds no address of a family in which it has none.
adds_none : (Means : List ℕ → ℕ → ℕ → Type 0) (line : List ℕ) (selected : Selection)
    → ((first last : ℕ) → ¬ Means line first last) → AddsAddressesOf Means line selected selected
adds_none Means line selected none number =
    (λ is. inl is, λ has. elim has [ inl is ↦ is | inr one ↦ absurd (none one.first one.last one.meaning) ])

-- So it adds none at all.
pub bad_adds_no_v4 : (line : List ℕ) (selected : Selection) → IsBadLine line
    → AddsAddressesOf MeansV4 line selected selected
bad_adds_no_v4 line selected bad = adds_none MeansV4 line selected
    (λ first last means. bad (V4 (record { start = first; end = last; exhausted = false }))
    (means (record { start = first; end = last; exhausted = false })
    (record { start = refl; end = refl; fresh = refl })))

pub bad_adds_no_v6 : (line : List ℕ) (selected : Selection) → IsBadLine line
    → AddsAddressesOf MeansV6 line selected selected
bad_adds_no_v6 line selected bad = adds_none MeansV6 line selected
    (λ first last means. bad (V6 (record { start = first; end = last; exhausted = false }))
    (means (record { start = first; end = last; exhausted = false })
    (record { start = refl; end = refl; fresh = refl })))

-- ---- the report of a line

-- A line with the content of another has its meaning.
pub same_meaning : (line other : List ℕ) → content line ≡ content other → (what : Line)
    → IsLine other what → IsLine line what
same_meaning line other is Nothing h = is ∙ h
same_meaning line other is (V4 range) h = rw is h
same_meaning line other is (V6 range) h = rw is h

-- What is reported of a line is so of each line with the same content.
pub same_report : (line other : List ℕ) (bad : BadLine) (number : ℕ)
    → content other ≡ content line → ((what : Line) → ¬ IsLine line what)
    → bad.number ≡ number → IsReason bad.reason (content line)
    → excerpt_of bad.text ≡ excerpt (content line) → IsReportOf bad number other
same_report line other bad number same none counted reason text = record {
  is_bad = λ what is. none what (same_meaning line other (sym same) what is);
  counted = counted;
  reason = subst (IsReason bad.reason) (sym same) reason;
  text = text ∙ ap excerpt (sym same);
}

-- ---- the lines of reports

-- One more line was added, for one more report.
pub told_more : (name before old new : List ℕ) (reports : List BadLine) (bad : BadLine)
    → old ≡ before ++ reports_text name reports
    → new ≡ old ++ (name ++ 58 ∷ (bad_line_text bad ++ 10 ∷ []))
    → new ≡ before ++ reports_text name (reports ++ bad ∷ [])
told_more name before old new reports bad so_far more =
    more ∙ ap (λ told. told ++ report_line name bad) so_far
    ∙ append_assoc before (reports_text name reports) (report_line name bad)
    ∙ ap (λ told. before ++ told) (flat_map_more (report_line name) [] reports bad)
