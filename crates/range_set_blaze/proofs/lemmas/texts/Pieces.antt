-- Texts that are written piece by piece.
use Rattle.std.proofs.Common.{◌≡◌, ℕ, List, [], ◌∷◌, ◌++◌, Option, Some, None, IfSome, ◌<◌, refl, sym, ap, ◌∙◌, subst, append_assoc, arith, rules}
use Rattle.std.proofs.Output.{has_written_append}
use Rattle.std.proofs.lemmas.List.{append-nil}
use Rattle.std.specs.declared.fmt.Formatter.{Formatter}
use Rattle.std.proofs.lemmas.List.Elements.{All-tail}
use Rattle.std.specs.Prelude.{All}
use Rattle.std.specs.Fmt.{◌++?◌, HasWritten, IsPlainFormatter, debug_items, comma_space}
use Rattle.rsb_integer.specs.Runs.{IsMaximalRun}
use Rattle.rsb_integer.specs.Selection.{Selection}
use Rattle.rsb_storage.specs.Storage.{entry_run, runs_of}
use Rattle.range_set_blaze.specs.Written.{ends_text, run_text}

-- If a fact holds of an optional text and there is a text, the fact holds of that text.
pub if_some_at : (text : Option (List ℕ)) (Fact : List ℕ → Type 0) (whole : List ℕ)
    → IfSome text Fact → text ≡ Some whole → Fact whole
if_some_at text Fact whole h is = subst (λ (t : Option (List ℕ)). IfSome t Fact) is h

-- A fact holds of an optional text if it holds of any text that there is.
pub if_some : (text : Option (List ℕ)) (Fact : List ℕ → Type 0)
    → ((whole : List ℕ) → text ≡ Some whole → Fact whole) → IfSome text Fact
if_some None Fact h = tt
if_some (Some whole) Fact h = h whole refl

-- The pieces of a text: `lead`, the text `head` of the first item, and the text `tail` of the
-- others.
pub record Parts (lead : List ℕ) (first others : Option (List ℕ)) (left : List ℕ) : Type 0 where
  pub head : List ℕ
  pub tail : List ℕ
  pub first_is : first ≡ Some head
  pub others_are : others ≡ Some tail
  pub whole : left ≡ lead ++ (head ++ tail)

pub parted : (lead : List ℕ) (first others : Option (List ℕ)) (left : List ℕ)
    → (Some lead ++? (first ++? others)) ≡ Some left → Parts lead first others left
parted lead None others left is = cc
parted lead (Some head) None left is = cc
parted lead (Some head) (Some tail) left is =
    record { head = head; tail = tail; first_is = refl; others_are = refl; whole = cc }

-- What was written, followed by the texts of the items that are left, is the text of all items.
pub record Leads {W X : Type 0} (took : W → List ℕ → W → Type 0) (text : X → Option (List ℕ))
    (start now : Formatter W) (lead : List ℕ) (rest : List X) (whole : List ℕ) : Type 0 where
  pub done : List ℕ
  pub left : List ℕ
  pub written : HasWritten took start done now
  pub is_left : debug_items text lead rest ≡ Some left
  pub is_whole : done ++ left ≡ whole

-- The same, if all items have a text and the formatter was plain at first.
abbrev pub WritesOn : {W X : Type 0} → (W → List ℕ → W → Type 0) → (X → Option (List ℕ))
    → Formatter W → Formatter W → List ℕ → List X → List X → Type 0
WritesOn took text start now lead rest all = (whole : List ℕ) → debug_items text [] all ≡ Some whole
    → IsPlainFormatter start → Leads took text start now lead rest whole

module _ {W X : Type 0} (took : W → List ℕ → W → Type 0) (text : X → Option (List ℕ)) where
  pub writes_on-none : (start : Formatter W) (all : List X)
      → WritesOn took text start start [] all all
  writes_on-none start all whole is plain = record {
    done = [];
    left = whole;
    written = search rules;
    is_left = is;
    is_whole = refl;
  }

  pub writes_on-more : (start now next : Formatter W) (lead : List ℕ) (item : X) (rest all : List X)
      → WritesOn took text start now lead (item ∷ rest) all
      → ((bs : List ℕ) → (Some lead ++? text item) ≡ Some bs → IsPlainFormatter now
      → HasWritten took now bs next) → WritesOn took text start next comma_space rest all
  writes_on-more start now next lead item rest all had wrote whole is plain =
      let so_far = had whole is plain in
      let parts = parted lead (text item) (debug_items text comma_space rest) so_far.left so_far.is_left
      in record {
        done = so_far.done ++ (lead ++ parts.head);
        left = parts.tail;
        written = has_written_append _ _ _ _ _ _ so_far.written
            (wrote (lead ++ parts.head) (ap (λ (t : Option (List ℕ)). Some lead ++? t) parts.first_is)
            so_far.written.plain);
        is_left = parts.others_are;
        is_whole = append_assoc so_far.done (lead ++ parts.head) parts.tail
            ∙ ap (λ (t : List ℕ). so_far.done ++ t)
            (append_assoc lead parts.head parts.tail ∙ sym parts.whole) ∙ so_far.is_whole;
      }

  pub writes_on-all : (start now : Formatter W) (lead : List ℕ) (rest all : List X) → rest ≡ []
      → WritesOn took text start now lead rest all → (whole : List ℕ)
      → debug_items text [] all ≡ Some whole → IsPlainFormatter start
      → HasWritten took start whole now
  writes_on-all start now lead rest all none had whole is plain =
      let so_far = had whole is plain in
      let left : [] ≡ so_far.left = cc (none, so_far.is_left) in
      subst (λ (bs : List ℕ). HasWritten took start bs now)
      (sym (append-nil so_far.done) ∙ ap (λ (t : List ℕ). so_far.done ++ t) left ∙ so_far.is_whole)
      so_far.written

-- The texts of entries are those of their runs.
module _ {T : Type 0} (rank : T → ℕ) (n : ℕ) (value_at : ℕ → T)
    (placed : (x : T) → rank x < n → value_at (rank x) ≡ x) (text : T → Option (List ℕ)) where
  pub items-runs : (selected : Selection) (lead : List ℕ) (entries : List (T × T))
      → All (IsMaximalRun n selected) (runs_of rank entries)
      → debug_items (λ entry. ends_text (text entry.0) (text entry.1)) lead entries
      ≡ debug_items (run_text (λ place. text (value_at place))) lead (runs_of rank entries)
  items-runs selected lead [] maximal = refl
  items-runs selected lead (entry ∷ entries) maximal =
      let run = entry_run rank entry in
      let here = maximal 0 run (omega arith) in
      let ordered = here.in_order in
      let below = here.in_type in
      let start = sym (ap text (placed entry.0 (omega arith))) in
      let end = sym (ap text (placed entry.1 below)) in
      let rest = items-runs selected comma_space entries
      (All-tail (IsMaximalRun n selected) run (runs_of rank entries) maximal) in
      λ i. Some lead ++? (ends_text (start i) (end i) ++? rest i)
