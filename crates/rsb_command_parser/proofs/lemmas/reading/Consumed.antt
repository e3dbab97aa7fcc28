-- The bytes that a reader gives, one part after the other.
use Rattle.std.proofs.Common.{◌≡◌, ◌∙◌, ℕ, ℤ, ◌<◌, List, [], ◌∷◌, ◌++◌, length, take, Option, Some, None, Result, Ok, Err, sym, ap, subst, append_assoc, arith}
use Rattle.std.proofs.lemmas.List.{append-nil}
use Rattle.std.specs.Io.KnownBytes.{Consumes, IsAtEnd, Keeps}
use Rattle.std.specs.Option.{IfSome}
use Rattle.std.specs.Result.{IfOk}
use Rattle.rsb_command_parser.specs.declared.command.Command.{Command}
use Rattle.rsb_command_parser.specs.Input.{HasBytes}
use Rattle.rsb_command_parser.specs.Spelling.{AreCommands, lines_with_words}
use Rattle.rsb_command_parser.proofs.lemmas.reading.OneCommand.{one_list}

-- If two parts were read one after the other, both together were read.
pub Consumes-then : (old mid new : Option (List ℕ)) (xs ys both : List ℕ) → both ≡ xs ++ ys
    → Consumes old mid xs → Consumes mid new ys → Consumes old new both
Consumes-then None mid new xs ys both parts first second = tt
Consumes-then (Some before) None new xs ys both parts first second = absurd first
Consumes-then (Some before) (Some between) None xs ys both parts first second = absurd second
Consumes-then (Some before) (Some between) (Some after) xs ys both parts first second =
    first ∙ ap (λ v. xs ++ v) second ∙ sym (append_assoc xs ys after)
    ∙ ap (λ v. v ++ after) (sym parts)

-- What was read stays the same while the bytes that are left do not change.
pub Consumes-keeps : (old mid new : Option (List ℕ)) (xs : List ℕ)
    → Consumes old mid xs → Keeps mid new → Consumes old new xs
Consumes-keeps None mid new xs first same = tt
Consumes-keeps (Some before) None new xs first same = absurd first
Consumes-keeps (Some before) (Some between) None xs first same = absurd same
Consumes-keeps (Some before) (Some between) (Some after) xs first same =
    first ∙ ap (λ v. xs ++ v) (sym same)

-- A read of no bytes does not change what was read.
pub Consumes-end : (old mid new : Option (List ℕ)) (xs buf : List ℕ) (n : ℕ) → n ≡ 0
    → Consumes old mid xs → Consumes mid new (take n buf) → Consumes old new xs
Consumes-end old mid new xs buf n none first second =
    Consumes-then old mid new xs [] xs (sym (append-nil xs)) first
    (subst (λ m. Consumes mid new (take m buf)) none second)

-- At the end of the input, what holds for the bytes that were read holds for the whole input.
pub consumed-all : (old new : Option (List ℕ)) (xs : List ℕ) (Fact : List ℕ → Type 0)
    → Consumes old new xs → IsAtEnd new → Fact xs → IfSome old Fact
consumed-all None new xs Fact read end fact = tt
consumed-all (Some input) None xs Fact read end fact = absurd read
consumed-all (Some input) (Some rest) xs Fact read end fact =
    subst Fact (sym (read ∙ ap (λ v. xs ++ v) end ∙ append-nil xs)) fact

-- An input that was read to its end spells only the commands that were read.
pub consumed-only : {V E : Type 0} (items : V → List (Command ℤ)) (old new : Option (List ℕ))
    (xs : List ℕ) → Consumes old new xs → IsAtEnd new → (result : Result V E)
    → IfOk result (λ read. AreCommands xs (items read))
    → IfOk result (λ read. IfSome old (λ bytes.
    (others : List (Command ℤ)) → AreCommands bytes others → others ≡ items read))
consumed-only items old new xs read end (Ok value) spelled =
    consumed-all old new xs
    (λ bytes. (others : List (Command ℤ)) → AreCommands bytes others → others ≡ items value) read end
    (λ others are. one_list (lines_with_words xs) others (items value) are spelled)
consumed-only items old new xs read end (Err error) spelled = tt

-- An input that spells at least one command has a byte.
pub some_spelled : (known : Option (List ℕ)) (commands : List (Command ℤ))
    → IfSome known (λ bytes. AreCommands bytes commands) → 0 < length commands → HasBytes known
some_spelled None commands spelled some = tt
some_spelled (Some []) [] spelled some = absurd (omega (arith, some))
some_spelled (Some []) (c ∷ cs) spelled some = absurd spelled
some_spelled (Some (byte ∷ bytes)) commands spelled some = omega arith
