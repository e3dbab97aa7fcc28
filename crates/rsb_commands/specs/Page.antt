-- What adding text to a page does to the text that waits there, and to the bytes of its writer. A
-- page has no `Model`: that would hide the reference, and with it what the writer has at the end.
use Rattle.std.specs.Prelude.{◌≡◌, ℕ, List, ◌++◌, MatchResult, Option, Result}
use Rattle.std.specs.Io.KnownBytes.{Appends}
use Rattle.rsb_command_parser.specs.declared.fault.Fault.{Fault}
use Rattle.rsb_command_parser.specs.declared.fault.Fault.TheVariants.{Io}
use Rattle.rsb_commands.specs.declared.page.Page.{Page}
use Rattle.rsb_commands.specs.Transfer.{AppendsShortOf}

-- The text that waits on the page.
abbrev pub waiting_text : {W : Type 0} → Page W → List ℕ
waiting_text page = page.text.items

-- Whether the text was added after what waited, with the writer unchanged.
pub record Waits {W : Type 0} (old new : Page W) (text : List ℕ) : Type 0 where
  pub waits : waiting_text new ≡ waiting_text old ++ text
  pub same_output : new.output ≡ old.output

module _ {W : Type 0} (contents : W → Option (List ℕ)) where
  -- What the writer has, if it is known.
  abbrev pub sent_bytes : Page W → Option (List ℕ)
  sent_bytes page = contents page.output.now

  -- Whether a prefix of what waited and the added text was written, and the rest waits.
  pub record Laid (old new : Page W) (text : List ℕ) : Type 0 where
    pub front : List ℕ
    pub parts : waiting_text old ++ text ≡ front ++ waiting_text new
    pub written : Appends (sent_bytes old) (sent_bytes new) front

  -- Whether the text was added after what waited. If a write failed, only a shorter prefix of what
  -- waited and the text was written.
  pub record Lays (old new : Page W) (result : Result (Unit {0}) Fault) (text : List ℕ) : Type 0
    where
      pub same_output : new.output.ghost_name ≡ old.output.ghost_name
      pub laid : MatchResult result
          (λ _. Laid old new text)
          (λ fault. (fault ≡ Io) × AppendsShortOf (sent_bytes old) (sent_bytes new)
          (waiting_text old ++ text))
