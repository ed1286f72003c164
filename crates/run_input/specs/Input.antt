-- The input of a run, and the run image: the bytes that it is read from. Rests on the meaning's Image and Layout.
use Rattle.std.specs.Prelude.{List, ℕ, length, eqb, leb}
use Rattle.std.proofs.Math.Option.{Option, some}
use Rattle.meaning.specs.Basics.{is_empty, ensure, ◌>>◌, ◌>>=◌}
use Rattle.meaning.specs.Numbers.{number}
use Rattle.meaning.specs.Layout.{base}
use Rattle.meaning.specs.Image.{expect}

pub record Input : Type 0 where
  pub nodes : List ℕ
  pub edges : List ℕ
  pub records : ℕ
  pub fuel : ℕ
  pub program : List ℕ

-- The tags of the five fields.

abbrev pub nodes_tag : ℕ
nodes_tag = 0x01

abbrev pub edges_tag : ℕ
edges_tag = 0x02

abbrev pub records_tag : ℕ
records_tag = 0x03

abbrev pub fuel_tag : ℕ
fuel_tag = 0x04

abbrev pub program_tag : ℕ
program_tag = 0x05

-- Sizes.

-- the most bytes of an image
abbrev pub most_input : ℕ
most_input = 65536

-- the most journal records that an image asks for
abbrev pub most_records : ℕ
most_records = base.records

-- the bytes of the number of records, and of the fuel
abbrev pub records_size : ℕ
records_size = 2

abbrev pub fuel_size : ℕ
fuel_size = 4

-- the five fields, each once in this order, and nothing behind
unfoldable pub input : List ℕ → Option Input
input bs = do
  ensure (leb (length bs) most_input)
  nodes ← expect nodes_tag bs
  edges ← expect edges_tag nodes.rest
  records ← expect records_tag edges.rest
  fuel ← expect fuel_tag records.rest
  program ← expect program_tag fuel.rest
  ensure (is_empty program.rest)
  ensure (eqb (length records.payload) records_size)
  ensure (eqb (length fuel.payload) fuel_size)
  ensure (leb (number records.payload) most_records)
  some (record {
    nodes = nodes.payload;
    edges = edges.payload;
    records = number records.payload;
    fuel = number fuel.payload;
    program = program.payload;
  })
