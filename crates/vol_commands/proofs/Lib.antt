-- What crates above cite.
pub mod Handed
mod Printed
pub mod Flushed
mod Asking
mod Listing
mod Texts
mod Filled
mod Beginning
mod Missing
mod Opened
pub mod Going
pub mod FreshVolume
mod PastVolumes
mod Refusals
mod Meant
mod Changed
mod Described
mod WaysDown
mod Thinned
mod Replaced
mod Removed
mod RemovedMap
mod Brought
mod Blamed
