-- A text that is laid on a page in parts, and written later.
use Rattle.std.proofs.Common.{◌≡◌, ◌∙◌, ℕ, ◌+◌, ◌<◌, suc, add-one, List, [], ◌∷◌, ◌++◌, get_or, length, take, drop, Option, Result, Ok, Err, refl, sym, ap, subst, append_assoc, arith}
use Rattle.std.proofs.lemmas.Grind.{flat_map-append}
use Rattle.std.proofs.lemmas.List.{append-nil, length-append, take-append-drop}
use Rattle.std.proofs.Math.Seq.{drop-cons, take-suc}
use Rattle.std.proofs.lemmas.List.Concat.{flat_map-cons}
use Rattle.std.specs.Io.KnownBytes.{Appends}
use Rattle.std.specs.Prelude.{flat_map}
use Rattle.std.specs.Result.{IsErrAnd}
use Rattle.rsb_command_parser.specs.declared.fault.Fault.{Fault}
use Rattle.rsb_commands.specs.declared.page.Page.{Page}
use Rattle.rsb_commands.specs.Page.{Laid, Lays, sent_bytes, waiting_text}
use Rattle.rsb_commands.specs.Transfer.{AppendsShortOf}
use Rattle.rsb_commands.proofs.lemmas.writing.Appended.{Appends-nothing, Appends-then}

-- ---- texts cut short

-- If `front` was written and then `cut` was cut short, a text that begins with both was cut short.
short_of_text : (old mid new : Option (List ℕ)) (front cut more text : List ℕ)
    → text ≡ front ++ (cut ++ more) → Appends old mid front → AppendsShortOf mid new cut
    → AppendsShortOf old new text
short_of_text old mid new front cut more text parts whole short =
    let rest = short.is_prefix.rest in
    let split : text ≡ (front ++ short.front) ++ (rest ++ more) =
    parts ∙ ap (λ v. front ++ (v ++ more)) short.is_prefix.parts
    ∙ ap (λ v. front ++ v) (append_assoc short.front rest more)
    ∙ sym (append_assoc front short.front (rest ++ more)) in
    let some = ap length short.is_prefix.parts ∙ length-append short.front rest in record {
      front = front ++ short.front;
      is_prefix = record { rest = rest ++ more; parts = split };
      shorter = omega (
        arith,
        short.shorter,
        some,
        ap length split ∙ length-append (front ++ short.front) (rest ++ more),
        length-append rest more,
      );
      written = Appends-then old mid new front short.front whole short.written;
    }

-- If a text was cut short, so was the text with more text after it.
pub short_and_more : (old new : Option (List ℕ)) (text more : List ℕ)
    → AppendsShortOf old new text → AppendsShortOf old new (text ++ more)
short_and_more old new text more short =
    short_of_text old old new [] text more (text ++ more) refl (Appends-nothing old) short

-- ---- texts laid on a page

module _ {W : Type 0} (contents : W → Option (List ℕ)) where
  -- If nothing changes, an empty text was laid.
  pub lays-nothing : (page : Page W) → Lays contents page page (Ok tt) []
  lays-nothing page = record {
    same_output = refl;
    laid = record {
      front = [];
      parts = append-nil (waiting_text page);
      written = Appends-nothing (sent_bytes contents page);
    };
  }

  -- If `first` was laid and then `next` was cut short, a text that begins with both was cut short.
  laid-short : (old mid new : Page W) (first next more text : List ℕ)
      → text ≡ first ++ (next ++ more) → Laid contents old mid first
      → AppendsShortOf (sent_bytes contents mid) (sent_bytes contents new) (waiting_text mid
      ++ next)
      → AppendsShortOf (sent_bytes contents old) (sent_bytes contents new) (waiting_text old
      ++ text)
  laid-short old mid new first next more text whole laid short =
      let before = waiting_text old in
      let between = waiting_text mid in
      short_of_text (sent_bytes contents old) (sent_bytes contents mid) (sent_bytes contents new)
      laid.front
      (between ++ next) more (before ++ text)
      (ap (λ v. before ++ v) whole ∙ sym (append_assoc before first (next ++ more))
      ∙ ap (λ v. v ++ (next ++ more)) laid.parts
      ∙ append_assoc laid.front between (next ++ more)
      ∙ ap (λ v. laid.front ++ v) (sym (append_assoc between next more)))
      laid.written short

  -- If `first` was laid, and `last` was then laid or cut short, so was the text of both.
  pub lays-then : (old mid new : Page W) (result : Result (Unit {0}) Fault)
      (first last text : List ℕ) → text ≡ first ++ last → Lays contents old mid (Ok tt) first
      → Lays contents mid new result last → Lays contents old new result text
  lays-then old mid new (Ok done) first last text whole one other =
      let before = waiting_text old in
      let between = waiting_text mid in
      let front = one.laid.front in
      let later = other.laid.front in
      record {
        same_output = other.same_output ∙ one.same_output;
        laid = record {
          front = front ++ later;
          parts = ap (λ v. before ++ v) whole ∙ sym (append_assoc before first last)
              ∙ ap (λ v. v ++ last) one.laid.parts ∙ append_assoc front between last
              ∙ ap (λ v. front ++ v) other.laid.parts
              ∙ sym (append_assoc front later (waiting_text new));
          written = Appends-then (sent_bytes contents old) (sent_bytes contents mid)
              (sent_bytes contents new) front
              later one.laid.written other.laid.written;
        };
      }
  lays-then old mid new (Err fault) first last text whole one other =
      let all = whole ∙ ap (λ v. first ++ v) (sym (append-nil last)) in record {
        same_output = other.same_output ∙ one.same_output;
        laid = (other.laid.0, laid-short old mid new first last [] text all one.laid other.laid.1);
      }

  -- If a call fails because a part of the text was cut short, the whole text was cut short.
  pub lays-cut : (old mid new : Page W) (result : Result (Unit {0}) Fault) (fault : Fault)
      (first next more text : List ℕ) → IsErrAnd result (λ other. other ≡ fault)
      → text ≡ first ++ (next ++ more) → Lays contents old mid (Ok tt) first
      → Lays contents mid new (Err fault) next
      → Lays contents old new result text
  lays-cut old mid new (Ok done) fault first next more text same whole one other = absurd same
  lays-cut old mid new (Err found) fault first next more text same whole one other = record {
    same_output = other.same_output ∙ one.same_output;
    laid = (
      same ∙ other.laid.0,
      laid-short old mid new first next more text whole one.laid other.laid.1,
    );
  }

  -- If nothing waited before and nothing waits now, all of the text was written.
  pub lays-all : (old new : Page W) (text : List ℕ) → waiting_text old ≡ [] → waiting_text new ≡ []
      → Lays contents old new (Ok tt) text
      → Appends (sent_bytes contents old) (sent_bytes contents new) text
  lays-all old new text begun ended lays =
      subst (Appends (sent_bytes contents old) (sent_bytes contents new))
      (sym (ap (λ v. v ++ text) (sym begun) ∙ lays.laid.parts
      ∙ ap (λ v. lays.laid.front ++ v) ended ∙ append-nil lays.laid.front))
      lays.laid.written

  -- If nothing waited before and a write failed, less than the text was written.
  pub lays-short : (old new : Page W) (fault : Fault) (text : List ℕ) → waiting_text old ≡ []
      → Lays contents old new (Err fault) text
      → AppendsShortOf (sent_bytes contents old) (sent_bytes contents new) text
  lays-short old new fault text begun lays =
      subst (λ before. AppendsShortOf (sent_bytes contents old) (sent_bytes contents new)
      (before ++ text))
      begun lays.laid.1

-- ---- the texts of items

-- The texts of all items are those before the item at `i`, then the text of that item, then the
-- others.
pub items_cut : {A : Type 0} (text_of : A → List ℕ) (xs : List A) (i : ℕ) (default : A)
    → i < length xs → flat_map text_of xs ≡ flat_map text_of (take i xs)
    ++ (text_of (get_or xs i default) ++ flat_map text_of (drop (suc i) xs))
items_cut text_of xs i default within =
    let x = get_or xs i default in
    let before = take i xs in
    let after = drop (suc i) xs in
    ap (flat_map text_of) (sym (take-append-drop i xs)
    ∙ ap (λ ys. before ++ ys) (drop-cons xs i default within))
    ∙ flat_map-append text_of before (x ∷ after)
    ∙ ap (λ t. flat_map text_of before ++ t) (flat_map-cons text_of x after)

-- The texts of the first `i + 1` items are those of the first `i`, then that of the item at `i`.
pub items_push : {A : Type 0} (text_of : A → List ℕ) (xs : List A) (i : ℕ) (default : A)
    → i < length xs → flat_map text_of (take (i + 1) xs)
    ≡ flat_map text_of (take i xs) ++ text_of (get_or xs i default)
items_push text_of xs i default within =
    let x = get_or xs i default in
    let before = take i xs in
    ap (λ n. flat_map text_of (take n xs)) (add-one i)
    ∙ ap (flat_map text_of) (take-suc xs i default within)
    ∙ flat_map-append text_of before (x ∷ [])
    ∙ ap (λ t. flat_map text_of before ++ t) (append-nil (text_of x))
