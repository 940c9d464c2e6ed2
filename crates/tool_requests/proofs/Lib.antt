mod ArgumentLaws
mod LineLaws
mod NumberLaws
mod RequestLaws
mod WordLaws
