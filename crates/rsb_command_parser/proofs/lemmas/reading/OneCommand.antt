-- What words spell: at most one command, and none if the arguments are wrong.
use Rattle.std.proofs.Common.{◌≡◌, ◌∙◌, ℕ, ℤ, ◌+◌, ◌*◌, Bool, true, false, List, [], ◌∷◌, get_or, map, arith, refl, sym, ap, subst}
use Rattle.std.specs.List.{AllZip}
use Rattle.rsb_command_parser.specs.declared.command.Command.{Command}
use Rattle.rsb_command_parser.specs.declared.command.Command.TheVariants.{Add, Del, Has, Gap, Count, Show, Union, Intersection, Difference, SymmetricDifference, Complement, Most, Compare}
use Rattle.rsb_command_parser.specs.Spelling.{Argument, slot, number, IsArgument, IsNumber, IsSlot, LacksFirst, Spells, line_of, words}

-- ---- what a word stands for, by its kind

-- A word names at most one slot.
same_slot : (word : List ℕ) (m n : ℕ) → IsSlot word m → IsSlot word n → m ≡ n
same_slot word m n left right =
    let same : 48 + m ≡ 48 + n = cc (left.digit, right.digit) in omega (arith, same)

-- A word spells at most one number.
same_number : (word : List ℕ) (y z : ℤ) → IsNumber word y → IsNumber word z → y ≡ z
same_number word y z left right = left.value ∙ sym right.value

-- Whether the argument is a slot.
abbrev pub is_slot : Argument → Bool
is_slot (slot n) = true
is_slot (number z) = false

-- Which of the arguments are slots.
abbrev pub kinds : List Argument → List Bool
kinds arguments = map is_slot arguments

-- Words stand for at most one list of arguments, if the kinds of these are known.
same_arguments : (words : List (List ℕ)) (xs ys : List Argument) → kinds xs ≡ kinds ys
    → AllZip IsArgument words xs → AllZip IsArgument words ys → xs ≡ ys
same_arguments words [] [] same left right = refl
same_arguments words [] (slot n ∷ ys) same left right = absurd cc
same_arguments words [] (number z ∷ ys) same left right = absurd cc
same_arguments words (slot m ∷ xs) [] same left right = absurd cc
same_arguments words (number y ∷ xs) [] same left right = absurd cc
same_arguments words (slot m ∷ xs) (number z ∷ ys) same left right = absurd cc
same_arguments words (number y ∷ xs) (slot n ∷ ys) same left right = absurd cc
same_arguments [] (slot m ∷ xs) (slot n ∷ ys) same left right = absurd left
same_arguments [] (number y ∷ xs) (number z ∷ ys) same left right = absurd left
same_arguments (word ∷ words) (slot m ∷ xs) (slot n ∷ ys) same left right =
    let rest : kinds xs ≡ kinds ys = cc in
    cc (same_slot word m n left.0 right.0, same_arguments words xs ys rest left.1 right.1)
same_arguments (word ∷ words) (number y ∷ xs) (number z ∷ ys) same left right =
    let rest : kinds xs ≡ kinds ys = cc in
    cc (same_number word y z left.0 right.0, same_arguments words xs ys rest left.1 right.1)

-- ---- the first word of a line, and the others

-- Words with a first one, which stands for `x`, and others, which stand for `xs`.
record First (words : List (List ℕ)) (x : Argument) (xs : List Argument) : Type 0 where
  word : List ℕ
  others : List (List ℕ)
  parts : words ≡ word ∷ others
  stands : IsArgument word x
  stand : AllZip IsArgument others xs

-- Words that stand for at least one argument have a first word, which stands for the first.
first_of : (words : List (List ℕ)) (x : Argument) (xs : List Argument)
    → AllZip IsArgument words (x ∷ xs) → First words x xs
first_of [] x xs are = absurd are
first_of (word ∷ others) x xs are =
    record { word = word; others = others; parts = refl; stands = are.0; stand = are.1 }

-- A line without words does not stand for one argument or more.
pub no_words : (line : List ℕ) (x : Argument) (xs : List Argument) → words line ≡ []
    → AllZip IsArgument (words line) (x ∷ xs) → ⊥
no_words line x xs none are =
    absurd (subst (λ (all : List (List ℕ)). AllZip IsArgument all (x ∷ xs)) none are)

-- A line whose first word is not a slot does not stand for arguments that begin with one.
pub no_slot_first : (line rest word : List ℕ) (n : ℕ) (xs : List Argument)
    → words line ≡ word ∷ words rest → ((n : ℕ) → IsSlot word n → ⊥)
    → AllZip IsArgument (words line) (slot n ∷ xs) → ⊥
no_slot_first line rest word n xs parts none are =
    none n (subst (λ (all : List (List ℕ)). AllZip IsArgument all (slot n ∷ xs)) parts are).0

-- A line whose first word is not a number does not stand for arguments that begin with one.
pub no_number_first : (line : List ℕ) (z : ℤ) (xs : List Argument) → LacksFirst IsNumber line
    → AllZip IsArgument (words line) (number z ∷ xs) → ⊥
no_number_first line z xs none are =
    let first = first_of (words line) (number z) xs are in
    none first.word first.others first.parts z first.stands

-- A line with words left does not stand for an empty list of arguments.
pub no_more : (line : List ℕ) → (words line ≡ [] → ⊥) → AllZip IsArgument (words line) [] → ⊥
no_more line some are = go (words line) some are
  where
    -- The same for any list of words.
    go : (all : List (List ℕ)) → (all ≡ [] → ⊥) → AllZip IsArgument all [] → ⊥
    go [] some are = some refl
    go (word ∷ others) some are = absurd are

-- If a line stands for arguments, what comes after its first word stands for the arguments after
-- the first.
pub past_first : (line rest word : List ℕ) (x : Argument) (xs : List Argument)
    → words line ≡ word ∷ words rest
    → AllZip IsArgument (words line) (x ∷ xs) → AllZip IsArgument (words rest) xs
past_first line rest word x xs parts are =
    (subst (λ (all : List (List ℕ)). AllZip IsArgument all (x ∷ xs)) parts are).1

-- ---- commands, by their keywords

-- The first two letters of a keyword as a number, which tells the keywords apart.
abbrev letters : List ℕ → ℕ
letters keyword = get_or keyword 0 0 * 256 + get_or keyword 1 0

-- Whether two commands take arguments of the same kinds, and are the same if these arguments are.
record AreAlike (left right : Command ℤ) : Type 0 where
  same_kinds : kinds (line_of left).arguments ≡ kinds (line_of right).arguments
  told_apart : (line_of left).arguments ≡ (line_of right).arguments → left ≡ right

-- Two commands with the same keyword are alike.
alike : (left right : Command ℤ) → (line_of left).keyword ≡ (line_of right).keyword
    → AreAlike left right
alike (Add m v w) (Add n x y) is = record { same_kinds = refl; told_apart = λ same. cc }
alike (Del m v) (Del n x) is = record { same_kinds = refl; told_apart = λ same. cc }
alike (Has m v) (Has n x) is = record { same_kinds = refl; told_apart = λ same. cc }
alike (Gap m v) (Gap n x) is = record { same_kinds = refl; told_apart = λ same. cc }
alike (Count m) (Count n) is = record { same_kinds = refl; told_apart = λ same. cc }
alike (Show m) (Show n) is = record { same_kinds = refl; told_apart = λ same. cc }
alike (Union k l m) (Union n o p) is = record { same_kinds = refl; told_apart = λ same. cc }
alike (Intersection k l m) (Intersection n o p) is =
    record { same_kinds = refl; told_apart = λ same. cc }
alike (Difference k l m) (Difference n o p) is =
    record { same_kinds = refl; told_apart = λ same. cc }
alike (SymmetricDifference k l m) (SymmetricDifference n o p) is =
    record { same_kinds = refl; told_apart = λ same. cc }
alike (Complement l m) (Complement n o) is = record { same_kinds = refl; told_apart = λ same. cc }
alike (Most j k l m) (Most n o p q) is = record { same_kinds = refl; told_apart = λ same. cc }
alike (Compare l m) (Compare n o) is = record { same_kinds = refl; told_apart = λ same. cc }
alike (Add m v w) _ is = let e = ap letters is in absurd (omega (arith, e))
alike (Del m v) _ is = let e = ap letters is in absurd (omega (arith, e))
alike (Has m v) _ is = let e = ap letters is in absurd (omega (arith, e))
alike (Gap m v) _ is = let e = ap letters is in absurd (omega (arith, e))
alike (Count m) _ is = let e = ap letters is in absurd (omega (arith, e))
alike (Show m) _ is = let e = ap letters is in absurd (omega (arith, e))
alike (Union k l m) _ is = let e = ap letters is in absurd (omega (arith, e))
alike (Intersection k l m) _ is = let e = ap letters is in absurd (omega (arith, e))
alike (Difference k l m) _ is = let e = ap letters is in absurd (omega (arith, e))
alike (SymmetricDifference k l m) _ is = let e = ap letters is in absurd (omega (arith, e))
alike (Complement l m) _ is = let e = ap letters is in absurd (omega (arith, e))
alike (Most j k l m) _ is = let e = ap letters is in absurd (omega (arith, e))
alike (Compare l m) _ is = let e = ap letters is in absurd (omega (arith, e))

-- Whether the keyword is that of the command, and the words stand for its arguments.
record Spelled (keyword : List ℕ) (arguments : List (List ℕ)) (command : Command ℤ) : Type 0 where
  same_keyword : (line_of command).keyword ≡ keyword
  stand_for : AllZip IsArgument arguments (line_of command).arguments

-- Words that spell a command are its keyword and its arguments.
spelled : (words arguments : List (List ℕ)) (keyword : List ℕ) (command : Command ℤ)
    → words ≡ keyword ∷ arguments → Spells words command → Spelled keyword arguments command
spelled words arguments keyword command parts is =
    let same : is.arguments ≡ arguments = cc (parts, is.parts) in record {
      same_keyword = cc (parts, is.parts);
      stand_for = subst
          (λ (args : List (List ℕ)). AllZip IsArgument args (line_of command).arguments)
          same is.stand_for;
    }

-- Words spell at most one command.
pub one_command : (words : List (List ℕ)) (left right : Command ℤ)
    → Spells words left → Spells words right → left ≡ right
one_command words left right is_left is_right =
    let l = spelled words is_right.arguments (line_of right).keyword left is_right.parts is_left in
    let both = alike left right l.same_keyword in
    both.told_apart (same_arguments is_right.arguments (line_of left).arguments
    (line_of right).arguments both.same_kinds l.stand_for is_right.stand_for)

-- Lines spell at most one list of commands.
pub one_list : (lines : List (List (List ℕ))) (left right : List (Command ℤ))
    → AllZip Spells lines left → AllZip Spells lines right → left ≡ right
one_list [] [] [] is_left is_right = refl
one_list [] (c ∷ cs) right is_left is_right = absurd is_left
one_list [] [] (d ∷ ds) is_left is_right = absurd is_right
one_list (line ∷ lines) [] right is_left is_right = absurd is_left
one_list (line ∷ lines) (c ∷ cs) [] is_left is_right = absurd is_right
one_list (line ∷ lines) (c ∷ cs) (d ∷ ds) is_left is_right =
    cc (one_command line c d is_left.0 is_right.0, one_list lines cs ds is_left.1 is_right.1)

-- ---- no command: the arguments are not of the kinds that the keyword takes

-- Words spell no command if those after the keyword stand for no arguments of its kinds.
pub no_arguments : (words arguments : List (List ℕ)) (keyword : List ℕ) (asked : Command ℤ)
    → words ≡ keyword ∷ arguments → keyword ≡ (line_of asked).keyword
    → ((xs : List Argument) → kinds xs ≡ kinds (line_of asked).arguments
    → AllZip IsArgument arguments xs → ⊥)
    → (command : Command ℤ) → Spells words command → ⊥
no_arguments words arguments keyword asked parts same none command is =
    let c = spelled words arguments keyword command parts is in
    let both = alike command asked (c.same_keyword ∙ same) in
    none (line_of command).arguments both.same_kinds c.stand_for

-- Words that are not a slot and two numbers stand for no arguments of those kinds.
pub slot_range_none : (words : List (List ℕ))
    → ((read : ℕ × ℤ × ℤ)
    → AllZip IsArgument words (slot read.0 ∷ number read.1 ∷ number read.2 ∷ []) → ⊥)
    → (xs : List Argument) → kinds xs ≡ true ∷ false ∷ false ∷ [] → AllZip IsArgument words xs → ⊥
slot_range_none words none (slot n ∷ number x ∷ number y ∷ []) same are = none (n, x, y) are
slot_range_none words none _ same are = absurd cc

-- Words that are not a slot and one number stand for no arguments of those kinds.
pub slot_value_none : (words : List (List ℕ))
    → ((read : ℕ × ℤ) → AllZip IsArgument words (slot read.0 ∷ number read.1 ∷ []) → ⊥)
    → (xs : List Argument) → kinds xs ≡ true ∷ false ∷ [] → AllZip IsArgument words xs → ⊥
slot_value_none words none (slot n ∷ number x ∷ []) same are = none (n, x) are
slot_value_none words none _ same are = absurd cc

-- Words that are not two slots stand for no arguments of those kinds.
pub two_slots_none : (words : List (List ℕ))
    → ((read : ℕ × ℕ) → AllZip IsArgument words (slot read.0 ∷ slot read.1 ∷ []) → ⊥)
    → (xs : List Argument) → kinds xs ≡ true ∷ true ∷ [] → AllZip IsArgument words xs → ⊥
two_slots_none words none (slot m ∷ slot n ∷ []) same are = none (m, n) are
two_slots_none words none _ same are = absurd cc

-- Words that are not three slots stand for no arguments of those kinds.
pub three_slots_none : (words : List (List ℕ))
    → ((read : ℕ × ℕ × ℕ)
    → AllZip IsArgument words (slot read.0 ∷ slot read.1 ∷ slot read.2 ∷ []) → ⊥)
    → (xs : List Argument) → kinds xs ≡ true ∷ true ∷ true ∷ [] → AllZip IsArgument words xs → ⊥
three_slots_none words none (slot l ∷ slot m ∷ slot n ∷ []) same are = none (l, m, n) are
three_slots_none words none _ same are = absurd cc

-- Words that are not four slots stand for no arguments of those kinds.
pub four_slots_none : (words : List (List ℕ))
    → ((read : ℕ × ℕ × ℕ × ℕ)
    → AllZip IsArgument words (slot read.0 ∷ slot read.1 ∷ slot read.2 ∷ slot read.3 ∷ []) → ⊥)
    → (xs : List Argument) → kinds xs ≡ true ∷ true ∷ true ∷ true ∷ []
    → AllZip IsArgument words xs → ⊥
four_slots_none words none (slot k ∷ slot l ∷ slot m ∷ slot n ∷ []) same are =
    none (k, l, m, n) are
four_slots_none words none _ same are = absurd cc
