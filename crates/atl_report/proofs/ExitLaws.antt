-- Laws of a region's line of exits: exits written one after another are the text of the definition.
-- `p` is a region of the world. `north` and so on, or `exit`, is the number of the region that lies in this direction,
-- None without an exit. `is_first` says that no exit was written before.
use Rattle.std.proofs.Common.{◌≡◌, ◌++◌, ◌&&◌, ℕ, List, [], Option, Some, None, refl, ap, ◌∙◌}
use Rattle.std.proofs.lemmas.List.{append-nil}
use Rattle.std.specs.Prelude.{Bool, true, false, codes, if◌then◌else◌, is_none, option_map}
use Rattle.std.specs.List.{cons_option}
use Rattle.std.specs.Option.{option_map_or}
use Rattle.atl_world.specs.declared.world.RegionPlan.{RegionPlan}
use Rattle.atl_sight.specs.Each.{each_text, separated_texts}
use Rattle.atl_report.specs.Report.{exit_text, exit_texts, joined_or_none}

-- an exit as it is written: direction and number, after a comma unless it is the first; nothing without an exit
abbrev pub exit_as_written : (is_first : Bool) → (direction : List ℕ) → Option ℕ → List ℕ
exit_as_written is_first direction exit =
    option_map_or (λ to. (if is_first then [] else codes ", ") ++ exit_text direction to) exit []

abbrev after_commas : List (List ℕ) → List ℕ
after_commas texts = each_text (λ t. codes ", " ++ t) texts

abbrev with_exit : (direction : List ℕ) → Option ℕ → List (List ℕ) → List (List ℕ)
with_exit direction exit texts = cons_option (option_map (exit_text direction) exit) texts

-- one more exit in front of others, each with a comma in front, is that exit as `exit_as_written` gives it (not as the
-- first), and then the others
later_exit_is_written : (direction : List ℕ) (exit : Option ℕ) (texts : List (List ℕ)) →
    after_commas (with_exit direction exit texts) ≡ exit_as_written false direction exit ++ after_commas texts
later_exit_is_written direction None texts = refl
later_exit_is_written direction (Some to) texts = refl

last_exit_is_written : (direction : List ℕ) (exit : Option ℕ)
    → after_commas (with_exit direction exit []) ≡ exit_as_written false direction exit
last_exit_is_written direction exit =
    later_exit_is_written direction exit [] ∙ append-nil (exit_as_written false direction exit)

four_exits_are_joined : (north south east west : Option ℕ) →
    separated_texts (codes ", ") (with_exit (codes "north") north (with_exit (codes "south") south (with_exit (codes "east") east (with_exit (codes "west") west []))))
    ≡ exit_as_written true (codes "north") north
    ++ (exit_as_written (is_none north) (codes "south") south
    ++ (exit_as_written (is_none north && is_none south) (codes "east") east
    ++ exit_as_written ((is_none north && is_none south) && is_none east) (codes "west") west))
four_exits_are_joined (Some n) s e w =
    let to_east = ap (λ l. exit_as_written false (codes "east") e ++ l) (last_exit_is_written (codes "west") w) in
    let east = later_exit_is_written (codes "east") e (with_exit (codes "west") w []) ∙ to_east in
    let south = later_exit_is_written (codes "south") s (with_exit (codes "east") e (with_exit (codes "west") w [])) ∙ ap (λ l. exit_as_written false (codes "south") s ++ l) east in
    ap (λ l. exit_text (codes "north") n ++ l) south
four_exits_are_joined None (Some s) e w =
    let to_east = ap (λ l. exit_as_written false (codes "east") e ++ l) (last_exit_is_written (codes "west") w) in
    let east = later_exit_is_written (codes "east") e (with_exit (codes "west") w []) ∙ to_east in
    ap (λ l. exit_text (codes "south") s ++ l) east
four_exits_are_joined None None (Some e) w =
    ap (λ l. exit_text (codes "east") e ++ l) (last_exit_is_written (codes "west") w)
four_exits_are_joined None None None (Some w) = append-nil (exit_text (codes "west") w)
four_exits_are_joined None None None None = refl

-- a region's exits with commas between them are its four directions as they are written: north, south, east, west, each
-- after a comma unless none before it has an exit
pub joined_in_turn : (p : RegionPlan) →
    separated_texts (codes ", ") (exit_texts p)
    ≡ exit_as_written true (codes "north") p.north
    ++ (exit_as_written (is_none p.north) (codes "south") p.south
    ++ (exit_as_written (is_none p.north && is_none p.south) (codes "east") p.east
    ++ exit_as_written ((is_none p.north && is_none p.south) && is_none p.east) (codes "west") p.west))
unfolding exit_texts
joined_in_turn p = four_exits_are_joined p.north p.south p.east p.west

four_exits_or_none : (north south east west : Option ℕ) →
    let texts = with_exit (codes "north") north (with_exit (codes "south") south (with_exit (codes "east") east (with_exit (codes "west") west []))) in
    joined_or_none texts ≡ if ((is_none north && is_none south) && is_none east) && is_none west then codes "none" else separated_texts (codes ", ") texts
four_exits_or_none (Some n) s e w = refl
four_exits_or_none None (Some s) e w = refl
four_exits_or_none None None (Some e) w = refl
four_exits_or_none None None None (Some w) = refl
four_exits_or_none None None None None = refl

-- the text of a region's exits is `none` if it has no exit in any of the four directions, else the exits with commas
-- between them
pub none_or_joined : (p : RegionPlan) →
    joined_or_none (exit_texts p)
    ≡ if ((is_none p.north && is_none p.south) && is_none p.east) && is_none p.west then codes "none" else separated_texts (codes ", ") (exit_texts p)
unfolding exit_texts
none_or_joined p = four_exits_or_none p.north p.south p.east p.west
