-- What the reader of a run image says of its five fields, by the ends of their payloads. Rests on Input and the meaning's Image.
use Rattle.std.specs.Prelude.{◌≡◌, List, ℕ, ◌+◌, ◌-◌, ◌≤◌, length, take, drop, Option, Some, None}
use Rattle.std.proofs.Math.Option.{Option as Maybe, some, none}
use Rattle.meaning.specs.Numbers.{number}
use Rattle.meaning.specs.Image.{Field, expect}
use Rattle.run_input.specs.Input.{Input, nodes_tag, edges_tag, records_tag, fuel_tag, program_tag, most_input, most_records, records_size, fuel_size, input}
use Rattle.run_input.specs.declared.Ends.{Ends}

-- One field.

-- the bytes of a field's head: its tag, and the length of its payload
abbrev pub field_head : ℕ
field_head = 3

-- the field whose head is at a place and whose payload ends at another
abbrev pub field_in : List ℕ → ℕ → ℕ → ℕ → Field
field_in bs tag at end = record { tag = tag; payload = take (end - (at + field_head)) (drop (at + field_head) bs); rest = drop end bs }

pub record Expected (bs : List ℕ) (at tag end : ℕ) : Type 0 where
  pub is : expect tag (drop at bs) ≡ some (field_in bs tag at end)
  pub ordered : at + field_head ≤ end
  pub inside : end ≤ length bs

abbrev pub Expects : List ℕ → ℕ → ℕ → Option ℕ → Type 0
Expects bs at tag (Some end) = Expected bs at tag end
Expects bs at tag None = expect tag (drop at bs) ≡ none

-- The five fields.

pub record Five (bs : List ℕ) (e : Ends) : Type 0 where
  pub nodes : Expected bs 0 nodes_tag e.nodes
  pub edges : Expected bs e.nodes edges_tag e.edges
  pub records : Expected bs e.edges records_tag e.records
  pub fuel : Expected bs e.records fuel_tag e.fuel
  pub program : Expected bs e.fuel program_tag e.program

abbrev pub Finds : List ℕ → Option Ends → Type 0
Finds bs (Some e) = Five bs e
Finds bs None = input bs ≡ none

-- where they lie
pub record Inside (bs : List ℕ) (e : Ends) : Type 0 where
  pub small : length bs ≤ most_input
  pub nodes : field_head ≤ e.nodes
  pub edges : e.nodes + field_head ≤ e.edges
  pub records : e.records ≡ e.edges + (field_head + records_size)
  pub fuel : e.fuel ≡ e.records + (field_head + fuel_size)
  pub program : e.fuel + field_head ≤ e.program
  pub whole : e.program ≡ length bs
  pub few : number (field_in bs records_tag e.edges e.records).payload ≤ most_records

-- The input.

abbrev pub input_of : List ℕ → Ends → Input
input_of bs e =
    record {
      nodes = (field_in bs nodes_tag 0 e.nodes).payload;
      edges = (field_in bs edges_tag e.nodes e.edges).payload;
      records = number (field_in bs records_tag e.edges e.records).payload;
      fuel = number (field_in bs fuel_tag e.records e.fuel).payload;
      program = (field_in bs program_tag e.fuel e.program).payload;
    }

abbrev pub input_in : List ℕ → Option Ends → Maybe Input
input_in bs (Some e) = some (input_of bs e)
input_in bs None = none

abbrev pub Within : List ℕ → Option Ends → Type 0
Within bs (Some e) = Inside bs e
Within bs None = Unit {0}

-- what reading says: which input it is, and where its parts lie
pub record Reading (bs : List ℕ) (r : Option Ends) : Type 0 where
  pub same : input_in bs r ≡ input bs
  pub within : Within bs r

-- what is lent of a part: its bytes, which are no more than those of an image
pub record Payload (part bytes : List ℕ) : Type 0 where
  pub same : bytes ≡ part
  pub small : length bytes ≤ most_input
