-- A line heard bit by bit. Only the reader's own contracts cite this, and no promise of the crate does.
-- Assumes nothing: these are definitions.
--
--   row p                the bits of the fields that p holds
--   whole p              whether these are all bits of the fields
--   Stuffed d b n front  whatever bits come behind the bits d in the fields, their line begins with front, which ends with n bits
--                        like b, and goes on with stuff bits as from there
--   Hears u d b n t      the bits u begin a line: there are the bits d of the fields in them, with n bits like b at their end, and behind
--                        them t bits of the line's end; d begin the fields of some good frame, and of any whose line begins with u
--   Has u r              the reader r has heard just the bits u
--   After u b h          h is what the bit b makes of the bits u that were heard
--   Goes r b h           h is what the bit b makes of whatever bits the reader r has heard
use Rattle.std.specs.Prelude.{◌≡◌, ℕ, ◌+◌, ◌*◌, Bool, true, List, [], ◌∷◌, ◌++◌, replicate, Some, None, Option, ◌==◌}
use Rattle.bits.specs.Bits.{bits_of}
use Rattle.frame.specs.Contents.{frame_data}
use Rattle.frame.specs.Fields.{fields}
use Rattle.frame.specs.Line.{line, start}
use Rattle.frame.specs.Stuffing.{stuff, stuff_due}
use Rattle.reader.specs.Beginning.{Begins}
use Rattle.reader.specs.Reading.{Stands}
use Rattle.reader.specs.declared.hearing.Heard.{Heard}
use Rattle.reader.specs.declared.hearing.Heard.TheVariants.{Within, Line}
use Rattle.reader.specs.declared.prefix.Prefix.{Prefix}
use Rattle.reader.specs.declared.reader.Reader.{Reader}

abbrev pub row : Prefix → List Bool
row p = bits_of p.count p.number

abbrev pub whole : Prefix → Bool
whole p = p.count == 30 + 8 * p.len

abbrev pub Stuffed : List Bool → Bool → ℕ → List Bool → Type 0
Stuffed d b n front = (rest : List Bool) → start ∷ stuff start 1 (d ++ rest) ≡ front ++ stuff_due b n rest

pub record Hears (u d : List Bool) (b : Bool) (n t : ℕ) : Type 0 where
  pub front : List Bool
  pub these : u ≡ front ++ replicate t true
  pub stuffed : Stuffed d b n front
  pub begun : Begins d
  pub only : (id : ℕ) (xs : List ℕ) (w : List Bool) → Stands id xs (u ++ w) → (rest : List Bool) × (fields id xs ≡ d ++ rest)

abbrev pub Has : List Bool → Reader → Type 0
Has u r = Hears u (row r.fields) r.run.bit r.run.count r.end

abbrev pub After : List Bool → Bool → Option Heard → Type 0
After u b (Some (Within r)) = Has (u ++ (b ∷ [])) r
After u b (Some (Line f)) = u ++ (b ∷ []) ≡ line f.id (frame_data f)
After u b None = (id : ℕ) (xs : List ℕ) (w : List Bool) → Stands id xs (u ++ (b ∷ w)) → ⊥

abbrev pub Goes : Reader → Bool → Option Heard → Type 0
Goes r b h = (u : List Bool) → Has u r → After u b h
