-- The desk's numbers, and the items that it hands over, written out. Assumes nothing.
use Rattle.std.specs.Prelude.{ℕ, ◌≡◌, List, [], ◌∷◌, ◌++◌, map, replicate, Ok, Err}
use Prim.Native.String.{String}
use Rattle.papers.specs.Bytes.{run}
use Rattle.papers.specs.Entries.{entry_at}
use Rattle.papers.specs.declared.layout.Refusal.TheVariants.{Badpaper, Blank, Badsheet, Noroom}
use Rattle.marker.specs.Mark.{worth}
use Rattle.forms.specs.declared.items.Refusal.TheVariants as writer
use Rattle.forms.specs.Adding.{counts}
use Rattle.brinefeather.specs.Desk.{mark_number, key_number, writer_of, added_number, refused_of}

pub record Numbered : Type 0 where
  pub name : String
  pub comes : ℕ
  pub should : ℕ

abbrev pub numbered : String → ℕ → ℕ → Numbered
numbered name comes should = record { name = name; comes = comes; should = should }

unfoldable pub numbers : List Numbered
numbers =
    -- "total, right, missing and surplus in 16 bits each, total highest"
    numbered "a mark of a blank sheet" (mark_number (worth 2 0 2 0)) 0x0002000000020000
    ∷ numbered "a mark with a different number in each place" (mark_number (worth 9 7 2 5)) 0x0009000700020005
    -- §1: "gain the offset, .. added, times 65,536, to the desk's number"
    ∷ numbered "badpaper at 0" (mark_number (Err (Badpaper 0))) 15
    ∷ numbered "badpaper at 10" (mark_number (Err (Badpaper 10))) 655375
    ∷ numbered "badpaper at the last place" (mark_number (Err (Badpaper 20010))) 1311375375
    ∷ numbered "blank" (mark_number (Err Blank)) 16
    ∷ numbered "badsheet at 0" (mark_number (Err (Badsheet 0))) 17
    ∷ numbered "badsheet at 2" (mark_number (Err (Badsheet 2))) 131089
    ∷ numbered "a key of one event" (key_number (Ok 22)) 22
    ∷ numbered "no key: badpaper at 0" (key_number (Err (Badpaper 0))) 15
    ∷ numbered "no key: badpaper at 10" (key_number (Err (Badpaper 10))) 655375
    ∷ numbered "no key: blank" (key_number (Err Blank)) 16
    ∷ numbered "no key: noroom" (key_number (Err Noroom)) 18
    -- §3: the paper's length times 2^32, its events times 65,536, its sequences; or the refusal number
    ∷ numbered "a writer of one sequence" (added_number (Ok (counts 0 1))) 0x0000001C00000001
    ∷ numbered "a writer of the README's paper" (added_number (Ok (counts 6 1))) 0x0000009400060001
    ∷ numbered "a writer of the longest paper" (added_number (Ok (counts 1000 64))) 0x0000522C03E80040
    ∷ numbered "not added: badpaper" (added_number (Err writer.Badpaper)) 15
    ∷ numbered "not added: order" (added_number (Err writer.Order)) 26
    ∷ numbered "not added: full" (added_number (Err writer.Full)) 20
    ∷ numbered "not added: noroom" (added_number (Err writer.Noroom)) 18
    -- read back: the counts, whatever the length
    ∷ numbered "no events before the first call" (writer_of 0).events 0
    ∷ numbered "no sequences before the first call" (writer_of 0).sequences 0
    ∷ numbered "its events" (writer_of 0x0000009400060001).events 6
    ∷ numbered "its sequences" (writer_of 0x0000009400060001).sequences 1
    ∷ numbered "its events, with another length" (writer_of 0xFFFFFFFF00060001).events 6
    ∷ numbered "its sequences, with another length" (writer_of 0xFFFFFFFF00060001).sequences 1
    ∷ numbered "the most events that 16 bits hold" (writer_of 0xFFFF0000).events 65535
    -- what `brinefeather_refused` says
    ∷ numbered "a mark is not refused" (refused_of 0x0001000000010000) 0
    ∷ numbered "a key of one event is not" (refused_of 22) 0
    ∷ numbered "nor one of two" (refused_of 38) 0
    ∷ numbered "nor one of 1,000" (refused_of 16006) 0
    ∷ numbered "a writer is not" (refused_of 0x0000001C00000001) 0
    ∷ numbered "nor the longest paper's" (refused_of 0x0000522C03E80040) 0
    ∷ numbered "badpaper at 0 is" (refused_of 15) 15
    ∷ numbered "and at 10" (refused_of 655375) 15
    ∷ numbered "and at the last place" (refused_of 1311375375) 15
    ∷ numbered "badsheet at 2 is" (refused_of 131089) 17
    ∷ numbered "noroom is" (refused_of 18) 18
    ∷ numbered "full is" (refused_of 20) 20
    ∷ numbered "order is" (refused_of 26) 26
    ∷ []

abbrev pub NumberCases : Type 0
NumberCases = map (λ n. n.comes) numbers ≡ map (λ n. n.should) numbers

-- ---- items: "bytes past its end as 0", and bytes over are not read

pub record ItemCases : Type 0 where
  pub short-event : entry_at (2 ∷ []) 0 ≡ record { kind = 2; call = 0; caller = 0; d0 = 0; d1 = 0; d2 = 0; d3 = 0; a0 = 0; sequence = 0 }
  pub no-event : entry_at [] 0 ≡ record { kind = 0; call = 0; caller = 0; d0 = 0; d1 = 0; d2 = 0; d3 = 0; a0 = 0; sequence = 0 }
  -- a byte short, of the sequence's number the upper byte alone; and three bytes over
  pub half-name : (entry_at (replicate 18 0 ++ 1 ∷ []) 0).sequence ≡ 256
  pub long-event : entry_at (replicate 18 0 ++ 0 ∷ 1 ∷ 9 ∷ 9 ∷ 9 ∷ []) 0 ≡ record { kind = 0; call = 0; caller = 0; d0 = 0; d1 = 0; d2 = 0; d3 = 0; a0 = 0; sequence = 1 }
  pub short-sequence : run (0x54 ∷ 0x41 ∷ 0x42 ∷ 0x4C ∷ 0x45 ∷ []) 0 16 ≡ 0x54 ∷ 0x41 ∷ 0x42 ∷ 0x4C ∷ 0x45 ∷ replicate 11 0
  pub no-sequence : run [] 0 16 ≡ replicate 16 0
  pub long-sequence : run (replicate 17 5) 0 16 ≡ replicate 16 5
