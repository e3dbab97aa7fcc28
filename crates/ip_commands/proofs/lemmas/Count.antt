-- The lines that count addresses and blocks.
use Rattle.std.proofs.Common.{◌≡◌, ◌∙◌, ℕ, ◌-◌, ◌^◌, List, ◌++◌, length, Option, Some, None, refl, sym, ap, append_assoc, subst, min}
use Rattle.std.specs.Fmt.{decimal, digits, option_append}
use Rattle.std.specs.Io.KnownBytes.{Appends}
use Rattle.std.specs.Prelude.{Err, IfSome, Ok, OnOk, Result, codes}
use Rattle.range_set_blaze.specs.Runs.{Interval, IsCanonicalIn, members}
use Rattle.range_set_blaze.specs.Selection.{count}
use Rattle.ip_sets.specs.Blocks.{AreMaximalBlocks}
use Rattle.ip_commands.specs.Answer.{AreCounts, IsCountText, count_line}
use Rattle.ip_commands.proofs.lemmas.Appends.{Appends-then}
use Rattle.ip_commands.specs.declared.request.Families.{Families}
use Rattle.ip_commands.specs.declared.request.Families.TheVariants.{Both}

-- The decimals of the number of all IPv6 addresses.
pub all-v6 : decimal (2 ^ 128) ≡ codes "340282366920938463463374607431768211456"
unfolding digits
all-v6 = refl

-- Whether a count of a family was written.
abbrev pub WritesCount : List ℕ → ℕ → List Interval → Option (List ℕ) → Option (List ℕ) → Type 0
WritesCount family width runs old new =
    (text : List ℕ) × IsCountText family width runs text × Appends old new text

-- The line with the numbers of addresses and blocks of a set.
pub counted : (family : List ℕ) (width : ℕ) (runs blocks : List Interval) (addresses many : ℕ)
    (old new : Option (List ℕ)) → IsCanonicalIn (2 ^ width) runs
    → AreMaximalBlocks (members runs) blocks → addresses ≡ count (2 ^ width) (members runs)
    → many ≡ min (length blocks) (2 ^ 64 - 1) → Appends old new (count_line family addresses many)
    → WritesCount family width runs old new
counted family width runs blocks addresses many old new canonical fewest same_addresses same_blocks
    appends = (
      count_line family addresses many,
      record {
        canonical = canonical;
        blocks = blocks;
        fewest = fewest;
        whole = ap (λ number. count_line family number many) same_addresses
            ∙ ap (count_line family (count (2 ^ width) (members runs))) same_blocks;
      },
      appends,
    )

-- The same, if the write succeeded.
pub counted-if-ok : {E : Type 0} (family : List ℕ) (width : ℕ) (runs blocks : List Interval)
    (addresses many : ℕ) (old new : Option (List ℕ)) (result : Result (Unit {0}) E)
    → IsCanonicalIn (2 ^ width) runs → AreMaximalBlocks (members runs) blocks
    → addresses ≡ count (2 ^ width) (members runs) → many ≡ min (length blocks) (2 ^ 64 - 1)
    → OnOk result (Appends old new (count_line family addresses many))
    → OnOk result (WritesCount family width runs old new)
counted-if-ok family width runs blocks addresses many old new (Ok done) canonical fewest
    same_addresses same_blocks appends =
    counted family width runs blocks addresses many old new canonical fewest same_addresses
    same_blocks appends
counted-if-ok family width runs blocks addresses many old new (Err error) canonical fewest
    same_addresses same_blocks appends = tt

-- A line of five parts, one of which may have a text that is not known.
pub line-written : {E : Type 0} (result : Result (Unit {0}) E) (known : Option (List ℕ))
    (a b d e f : List ℕ) (P : List ℕ → Type 0)
    → OnOk result (IfSome (option_append (Some a) (option_append (Some b)
    (option_append known (Some (d ++ (e ++ f)))))) P)
    → OnOk result (IfSome known (λ each. P (a ++ b ++ each ++ d ++ e ++ f)))
line-written (Ok done) None a b d e f P is = tt
line-written (Ok done) (Some each) a b d e f P is =
    let same : a ++ (b ++ (each ++ (d ++ (e ++ f)))) ≡ a ++ b ++ each ++ d ++ e ++ f =
    simp append_assoc in
    subst P same is
line-written (Err error) known a b d e f P is = tt

-- Counts of both families.
pub both-counted : {E : Type 0} (families : Families) (v4 v6 : List Interval)
    (result : Result (Unit {0}) E) (old mid new : Option (List ℕ)) → families ≡ Both
    → WritesCount (codes "IPv4") 32 v4 old mid
    → OnOk result (WritesCount (codes "IPv6") 128 v6 mid new)
    → OnOk result ((text : List ℕ) × AreCounts families v4 v6 text × Appends old new text)
both-counted families v4 v6 (Ok done) old mid new is first last =
    let text = first.0 ++ last.0 in
    let counts : AreCounts Both v4 v6 text = (first.0, last.0, first.1, last.1, refl) in (
      text,
      subst (λ which. AreCounts which v4 v6 text) (sym is) counts,
      Appends-then old mid new first.0 last.0 first.2 last.2,
    )
both-counted families v4 v6 (Err error) old mid new is first last = tt
