-- Text that is laid on a page in parts, and written later.
use Rattle.std.proofs.Common.{◌≡◌, ◌∙◌, ℕ, ◌+◌, ◌<◌, Bool, not, List, [], ◌∷◌, ◌++◌, length, Option, refl, sym, ap, append_assoc, arith, length-append, subst}
use Rattle.std.proofs.lemmas.Bool.Decides.{nat_tests}
use Rattle.std.proofs.lemmas.List.{append-nil, flat_map_more}
use Rattle.std.specs.Io.KnownBytes.{Appends}
use Rattle.std.specs.List.{flat_map}
use Rattle.std.specs.Prelude.{◌==◌}
use Rattle.ip_sets.specs.List.{has_bytes}
use Rattle.ip_commands.specs.Page.{Lays, LeavesSome}
use Rattle.ip_commands.proofs.lemmas.Appends.{Appends-nothing, Appends-then}

-- If nothing changes, nothing was laid.
pub lays-nothing : (known : Option (List ℕ)) (waiting : List ℕ)
    → Lays known known waiting waiting []
lays-nothing known waiting = record {
  front = [];
  parts = append-nil waiting;
  written = Appends-nothing known;
}

-- If two parts were laid one after the other, both together were laid.
pub lays-then : (old mid new : Option (List ℕ)) (waited between waits first last : List ℕ)
    → Lays old mid waited between first → Lays mid new between waits last
    → Lays old new waited waits (first ++ last)
lays-then old mid new waited between waits first last before after = record {
  front = before.front ++ after.front;
  parts = sym (append_assoc waited first last) ∙ ap (λ v. v ++ last) before.parts
      ∙ append_assoc before.front between last ∙ ap (λ v. before.front ++ v) after.parts
      ∙ sym (append_assoc before.front after.front waits);
  written = Appends-then old mid new before.front after.front before.written after.written;
}

-- Text that was added to what waits was laid.
lays-added : (known : Option (List ℕ)) (waited waits text : List ℕ) → waits ≡ waited ++ text
    → Lays known known waited waits text
lays-added known waited waits text is = record {
  front = [];
  parts = sym is;
  written = Appends-nothing known;
}

-- If the lines of some items were laid, room was made, and the line of one more item was added, the
-- lines of all were laid.
pub lays-item : {X : Type 0} (line : X → List ℕ) (old mid new : Option (List ℕ))
    (waited between before waits : List ℕ) (items : List X) (item : X)
    → Lays old mid waited between (flat_map line items) → Lays mid new between before []
    → waits ≡ before ++ line item → Lays old new waited waits (flat_map line (items ++ item ∷ []))
lays-item line old mid new waited between before waits items item lines room more =
    subst (Lays old new waited waits) (flat_map_more line [] items item)
    (lays-then old mid new waited between waits (flat_map line items) (line item) lines
    (lays-then mid new new between before waits [] (line item) room
    (lays-added new before waits (line item) more)))

-- If a text with a byte was added last, something waits.
pub left-some : (before line waits text : List ℕ) → waits ≡ before ++ line → 0 < length line
    → LeavesSome waits text
left-some before line waits text is some = λ none.
    let many : length waits ≡ length before + length line = ap length is ∙ length-append before line in
    let no_bytes : length waits ≡ 0 = ap length none in
    absurd (omega (arith, many, no_bytes, some))

-- Something waits exactly if the text that was laid on an empty page is not empty.
laid-some : (front waits text : List ℕ) → front ++ waits ≡ text → LeavesSome waits text
    → not (length waits == 0) ≡ has_bytes text
laid-some front [] text parts leaves = sym (ap has_bytes (leaves refl))
laid-some front (byte ∷ waits) text parts leaves =
    let many : length text ≡ length front + length (byte ∷ waits) =
    ap length (sym parts) ∙ length-append front (byte ∷ waits) in
    grind (arith, nat_tests, many)

-- If a text of some runs was laid on an empty page and the page was then written, the text was
-- written.
pub lays-sent : {R : Type 0} (May : R → Type 0) (IsText : R → List ℕ → Type 0)
    (old mid new : Option (List ℕ)) (waited waits : List ℕ) (some : Bool) → waited ≡ []
    → (runs : R) × May runs × ((text : List ℕ) × IsText runs text × Lays old mid waited waits text
    × LeavesSome waits text)
    → some ≡ not (length waits == 0) → Appends mid new waits
    → (runs : R) × May runs × ((text : List ℕ) × IsText runs text × Appends old new text
    × (some ≡ has_bytes text))
lays-sent May IsText old mid new waited waits some none laid is sent =
    let text = laid.2 in
    let lays = text.2 in
    let parts : lays.front ++ waits ≡ text.0 =
    sym lays.parts ∙ ap (λ v. v ++ text.0) none in (
      laid.0,
      laid.1,
      (
        text.0,
        text.1,
        subst (Appends old new) parts
            (Appends-then old mid new lays.front waits lays.written sent),
        is ∙ laid-some lays.front waits text.0 parts text.3,
      ),
    )
