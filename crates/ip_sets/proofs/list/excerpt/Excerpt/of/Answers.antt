use Rattle.std.proofs.Common.{◌≡◌, ◌∙◌, ℕ, ◌<◌, ◌≤◌, Bool, true, false, List, ◌++◌, length, take, refl, ap, arith, length-take-le}
use Rattle.std.proofs.Math.Seq.{take-append_seam}
use Rattle.std.proofs.lemmas.Bool.Decides.{nat_tests}
use Rattle.std.proofs.lemmas.List.{take-take, take_all}
use Rattle.std.specs.Prelude.{codes, min, nat_le}
use Rattle.ip_sets.specs.Excerpt.{excerpt, shown}
use Rattle.ip_sets.proofs.list.excerpt.Excerpt.of.Goals as goal

-- The first bytes of a text, one more than are shown, have its excerpt.
same_start : (text : List ℕ) (len : ℕ) → len ≡ min (length text) 61
    → excerpt (take len text) ≡ excerpt text
same_start text len at = by (nat_le (length text) 60) refl
  where
    by : (short : Bool) → nat_le (length text) 60 ≡ short → excerpt (take len text) ≡ excerpt text
    by true is =
        let few : length text ≤ 60 = grind (arith, nat_tests) in
        ap excerpt (take_all len text (omega (arith, at, few)))
    by false is =
        let many : 60 < length text = grind (arith, nat_tests) in
        let whole : len ≡ 61 = omega (arith, at, many) in
        let size : length (take len text) ≡ 61 =
        ap (λ n. length (take n text)) whole ∙ length-take-le 61 text (omega (arith, many)) in
        let long : nat_le (length (take len text)) 60 ≡ false = ap (λ n. nat_le n 60) size in
        let front : take 60 (take len text) ≡ take 60 text =
        ap (λ n. take 60 (take n text)) whole ∙ take-take 60 61 text (omega arith) in
        rw (long, is) (ap (λ start. shown start ++ codes "...") front)

-- They are kept, with zeros after them.
kept : (text new zeros : List ℕ) (len : ℕ) → len ≡ min (length text) 61 → new ≡ take len text
    → excerpt (take (min len 61) (new ++ zeros)) ≡ excerpt text
kept text new zeros len at is =
    let size : min len 61 ≡ length new =
    omega (arith, at, ap length is, length-take-le len text (omega (arith, at))) in
    ap (λ n. excerpt (take n (new ++ zeros))) size ∙ ap excerpt (take-append_seam new zeros)
    ∙ ap excerpt is ∙ same_start text len at

pub returns : goal.returns
returns c = kept c.args.text.now c.copy_from_slice.new.self _ c.min-len.result c.min-len.ensures
    c.copy_from_slice.ensures.after
