-- What writing does to the bytes of a writer, if they are known.
use Rattle.std.specs.Prelude.{◌≡◌, ◌≢◌, ℕ, List, [], ◌++◌, MatchResult, Option, Result}
use Rattle.std.specs.Io.KnownBytes.{Appends}

module _ (old new : Option (List ℕ)) where
  -- Whether all of the bytes except `rest` were written.
  pub record HasWritten (bytes rest : List ℕ) : Type 0 where
    pub front : List ℕ
    pub parts : bytes ≡ front ++ rest
    pub written : Appends old new front

  -- Whether only the first of the bytes were written.
  pub record WritesPart (bytes : List ℕ) : Type 0 where
    pub rest : List ℕ
    pub some : rest ≢ []
    pub written : HasWritten bytes rest

  -- Whether the bytes were written. If there was an error, only the first of them were.
  abbrev pub Writes : {R E : Type 0} → Result R E → List ℕ → Type 0
  Writes result bytes = MatchResult result (λ _. Appends old new bytes) (λ _. WritesPart bytes)

  -- Whether the first of the bytes were written, and `waits` is left. If there was an error, only the
  -- first were written.
  abbrev pub Sends : {R E : Type 0} → List ℕ → List ℕ → Result R E → Type 0
  Sends bytes waits result = MatchResult result (λ _. HasWritten bytes waits) (λ _. WritesPart bytes)
